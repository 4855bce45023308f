-- Bytes that are entered at once, as if they were judged.
pub mod SeenIsFirst
pub mod CharactersPass
pub mod TextPassesAtOnce
pub mod CommandsAreLeftOut
pub mod SequencesAreLeftOut
pub mod SequencesPassAtOnce
