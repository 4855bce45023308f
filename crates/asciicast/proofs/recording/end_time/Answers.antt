use Rattle.std.proofs.Common.{rules, refl}
use Rattle.json.specs.Word.{after_number}
use Rattle.asciicast.proofs.recording.end_time.Goals as goal

pub returns-then-not-is_number : goal.returns-then-not-is_number
unfolding after_number
returns-then-not-is_number c = record {
  number = refl;
  time = record { since_before = λ _. refl; first = λ _. refl; after = λ r n. search rules };
}
