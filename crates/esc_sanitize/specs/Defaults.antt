-- How the program filters a stream where only a policy is named.
use Rattle.std.specs.Prelude.{Bool, true, false, if◌then◌else◌, None}
use Rattle.esc_decode.specs.declared.encoding.Encoding.TheVariants as encodings
use Rattle.esc_filter.specs.declared.guard.Guard.{Guard}
use Rattle.esc_filter.specs.declared.policy.Policy.{Policy}
use Rattle.esc_filter.specs.declared.policy.Policy.TheVariants as policies
use Rattle.esc_filter.specs.declared.returns.Returns.TheVariants as returns
use Rattle.esc_filter.specs.declared.unicode.Unicode.TheVariants as unicode
use Rattle.esc_sanitize.specs.declared.options.FilterOptions.{FilterOptions}

-- it passes text and its colours alone
abbrev pub is_for_reading : Policy → Bool
is_for_reading policies.Text = true
is_for_reading policies.Color = true
is_for_reading policies.Screen = false
is_for_reading policies.All = false

-- Then characters that hide or reorder text are shown, but those that belong to the character
-- before them, and so are carriage returns; else both are kept.
abbrev pub guard_of : Policy → Guard
guard_of p = if is_for_reading p
    then record { characters = unicode.Join; returns = returns.Show }
    else record { characters = unicode.Keep; returns = returns.Keep }

abbrev pub defaults : Policy → FilterOptions Policy
defaults p = record {
  policy = p;
  limit = 0x100000;
  by_lines = is_for_reading p;
  resumes = true;
  guard = guard_of p;
  encoding = encodings.Utf8;
  show = None;
  window = None;
  audits = true;
}

-- the same, where this says what passes
abbrev pub with_policy : {P Q : Type 0} → Q → FilterOptions P → FilterOptions Q
with_policy q o = record {
  policy = q;
  limit = o.limit;
  by_lines = o.by_lines;
  resumes = o.resumes;
  guard = o.guard;
  encoding = o.encoding;
  show = o.show;
  window = o.window;
  audits = o.audits;
}
