-- The actions that a policy admits, by groups and by kinds of actions.
pub mod PolicyIsKnown
pub mod ChoicesAdmit
pub mod GroupsByKey
pub mod GroupsAreThePolicy
pub mod CommandsAreKnown
pub mod PlainLinksAreLinks
pub mod ImagesDoNotPass
pub mod PassedIsWritable
pub mod AtMostTextOrColor
