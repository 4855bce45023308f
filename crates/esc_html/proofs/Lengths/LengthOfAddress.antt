-- How long the address of a command is: no longer than its parts, nor than an address may be.
use Rattle.std.proofs.Common.{ℕ, ◌≡◌, ◌≤◌, ◌+◌, ◌-◌, Bool, true, false, ◌&&◌, if◌then◌else◌, List, [], ◌∷◌, codes, length, Option, Some, None, refl, ap, arith}
use Rattle.std.specs.List.{list_all}
use Rattle.std.specs.Option.{option_map, unwrap_or}
use Rattle.std.specs.Str.{chars, is_utf8}
use Rattle.std.specs.Str.Lossy.{utf8_lossy}
use Rattle.std.proofs.lemmas.Bool.{and_parts, leb-true}
use Rattle.std.proofs.lemmas.List.{append-nil}
use Rattle.esc_html.specs.Addresses.{address_in, has_safe_scheme, is_address_char, is_link_code, is_safe_address, is_safe_in_parts, is_short}
use Rattle.esc_html.specs.Marks.{address_if, address_of, is_page_address, lead_by, lead_to}
use Rattle.esc_html.specs.PageParts.{is_unbroken}
use Rattle.esc_html.proofs.Lengths.LengthOfParts.{value_added, value_size, value_small}
use Rattle.esc_html.proofs.Lengths.StepsPayGrowth.{address_size}
use Rattle.esc_html.proofs.Parts.PartsAreSafe.{page_in_parts}
use Rattle.esc_links.specs.Hyperlinks.{link_in, link_of, link_to, params_of}
use Rattle.esc_links.specs.declared.hyperlink.Hyperlink.{Hyperlink}
use Rattle.esc_osc.specs.Reading.{content_of, dynamic_command, fitting, meaning, notification, reading, selection_command}
use Rattle.esc_osc.specs.declared.command.OperatingSystemCommand.{OperatingSystemCommand}
use Rattle.esc_osc.specs.declared.command.OperatingSystemCommand.TheVariants as command
use Rattle.esc_osc_values.specs.Codes.{changed_by, code_name, code_of, reset_by}
use Rattle.esc_osc_values.specs.declared.code.OperatingSystemCommandCode.{OperatingSystemCommandCode}
use Rattle.esc_osc_values.specs.declared.code.OperatingSystemCommandCode.TheVariants as code
use Rattle.std.specs.Prelude.{nat_eq, drop}
use Rattle.std.specs.Cmp.Lexicographic.{pointwise}
use Rattle.esc_values.specs.Base64.{base64_text_of}
use Rattle.esc_iterm.specs.ITerms.{iterm_of}
use Rattle.esc_prompts.specs.Prompts.{prompt_of}
use Rattle.esc_osc_values.specs.Colors.{colors_of, pairs_of}
use Rattle.esc_osc_values.specs.Lists.{lone_text, numbers_of, title_of}
use Rattle.esc_osc_values.specs.Progresses.{progress_of}
use Rattle.esc_osc_values.specs.Selections.{selection, selection_of}
use Rattle.esc_osc_values.specs.declared.dynamic_color_number.DynamicColorNumber.{DynamicColorNumber}
use Rattle.esc_osc_values.specs.declared.progress.Progress.{Progress}
use Rattle.esc_values.proofs.Clear.SplitAndJoined.{joined_parts}
use Rattle.esc_values.specs.Clear.{semicolon_list, parts_of}
use Rattle.esc_values.specs.Cuts.{Pairs}
use Rattle.esc_values.specs.Scalars.{and_then, utf8_of}

-- ---- a size, and no more than the longest address has

abbrev pub capped : ℕ → ℕ
capped n = 12498 - (12498 - n)

pub capped_less : (m n : ℕ) → m ≤ n → capped m ≤ capped n
capped_less m n h = omega (arith, h)

pub capped_more : (m n : ℕ) → capped (m + n) ≤ capped m + n
capped_more m n = omega arith

pub capped_most : (n : ℕ) → capped n ≤ 12498
capped_most n = omega arith

-- ---- parts

-- with `;` between them
abbrev pub parts_size : List (List ℕ) → ℕ
parts_size ps = value_size (semicolon_list ps)

pub parts_within : (t : List ℕ) → parts_size (parts_of t) ≤ value_size t
parts_within t = omega (arith, ap value_size (joined_parts t))

-- but the first one
fewer_parts : (p : List ℕ) (ps : List (List ℕ)) → parts_size ps ≤ parts_size (p ∷ ps)
fewer_parts p [] = omega arith
fewer_parts p (q ∷ ps) =
    omega (
      arith,
      value_added p (0x3b ∷ semicolon_list (q ∷ ps)),
      value_added (0x3b ∷ []) (semicolon_list (q ∷ ps)),
    )

last_part : (p q : List ℕ) → value_size q ≤ parts_size (p ∷ q ∷ [])
last_part p q = omega (arith, fewer_parts p (q ∷ []), ap value_size (append-nil q))

-- the parts of an address alone
fewer_in : (ps : List (List ℕ)) → parts_size (address_in ps) ≤ parts_size ps
fewer_in [] = omega arith
fewer_in (p ∷ []) = omega arith
fewer_in (p ∷ q ∷ us) = by (is_link_code p)
  where
    by : (b : Bool) → parts_size (if b then us else []) ≤ parts_size (p ∷ q ∷ us)
    by true = omega (arith, fewer_parts p (q ∷ us), fewer_parts q us)
    by false = omega arith

-- ---- addresses

pub short_size : (a : List ℕ) → is_page_address a ≡ true → value_size a ≤ 12498
short_size a h =
    let safe = (and_parts (is_safe_address a) (list_all is_unbroken a) h).0 in
    let form = (and_parts (is_short a && has_safe_scheme a)
    (list_all is_address_char (chars a)) safe).0 in
    let short = (and_parts (is_short a) (has_safe_scheme a) form).0 in
    omega (arith, value_small a, leb-true (length a) 2083 short)

pub page_address_size : (a : List ℕ) → is_page_address a ≡ true
    → value_size a ≤ capped (value_size a)
page_address_size a h = omega (arith, short_size a h)

address_if_size : (b : Bool) (a : List ℕ) → is_page_address a ≡ b
    → address_size (address_if b a) ≤ capped (value_size a)
address_if_size true a h = page_address_size a h
address_if_size false a h = omega arith

-- ---- commands

abbrev pub lead_size : Option (Option (List ℕ)) → ℕ
lead_size None = 0
lead_size (Some k) = address_size k

abbrev pub command_size : {A : Type 0} → OperatingSystemCommand A → ℕ
command_size c = lead_size (lead_by c)

in_parts_size : (us : List (List ℕ)) → lead_size (lead_to us) ≤ capped (parts_size us)
in_parts_size [] = omega arith
in_parts_size (u ∷ us) = by (is_safe_in_parts (u ∷ us)) refl
  where
    by : (b : Bool) → is_safe_in_parts (u ∷ us) ≡ b
        → address_size (address_if b (semicolon_list (u ∷ us))) ≤ capped (parts_size (u ∷ us))
    by true h = page_address_size (semicolon_list (u ∷ us)) (page_in_parts (u ∷ us) h)
    by false h = omega arith

-- the address of the command that there may be is no longer than n
abbrev IsWithin : {A : Type 0} → ℕ → Option (OperatingSystemCommand A) → Type 0
IsWithin n None = Unit {0}
IsWithin n (Some c) = command_size c ≤ n

module _ (A : Type 0) (n : ℕ) where
  mapped : {X : Type 0} (f : X → OperatingSystemCommand A) → ((x : X) → command_size (f x) ≡ 0)
      → (o : Option X) → IsWithin n (option_map f o)
  mapped f h None = tt
  mapped f h (Some x) = omega (arith, h x)

  chained : {X : Type 0} (f : X → Option (OperatingSystemCommand A)) → ((x : X) → IsWithin n (f x))
      → (o : Option X) → IsWithin n (and_then o f)
  chained f h None = tt
  chained f h (Some x) = h x

  either : (b : Bool) (x y : Option (OperatingSystemCommand A)) → IsWithin n x → IsWithin n y
      → IsWithin n (if b then x else y)
  either true x y h k = h
  either false x y h k = k

  content_within : (s t : List ℕ) → IsWithin n (content_of {A = A} s t)
  content_within s t =
      chained (λ b. option_map (λ text. command.SetSelection (selection b) text)
      (base64_text_of t))
      (λ b. mapped (λ text. command.SetSelection (selection b) text) (λ x. refl)
      (base64_text_of t)) (selection_of s)

  selected_within : (ps : List (List ℕ)) → IsWithin n (selection_command {A = A} ps)
  selected_within [] = tt
  selected_within (s ∷ []) =
      mapped (λ b. command.ClearSelection (selection b)) (λ x. refl) (selection_of s)
  selected_within (s ∷ t ∷ []) =
      either (pointwise nat_eq t (codes "?"))
      (option_map (λ b. command.QuerySelection (selection b)) (selection_of s)) (content_of s t)
      (mapped (λ b. command.QuerySelection (selection b)) (λ x. refl) (selection_of s))
      (content_within s t)
  selected_within (s ∷ t ∷ u ∷ ps) = tt

  notified_within : (p : Option Progress) (t : Option (List ℕ))
      → IsWithin n (notification {A = A} p t)
  notified_within (Some p) t = omega arith
  notified_within None t = mapped command.SystemNotification (λ x. refl) t

  dynamic_within : (c r : Option DynamicColorNumber) (args : List (List ℕ))
      → IsWithin n (dynamic_command {A = A} c r args)
  dynamic_within (Some c) r args =
      mapped (command.ChangeDynamicColors c) (λ x. refl) (colors_of args)
  dynamic_within None (Some r) args = omega arith
  dynamic_within None None args = tt

  -- ---- links

  abbrev IsLinkWithin : Option (Option (Hyperlink A)) → Type 0
  IsLinkWithin None = Unit {0}
  IsLinkWithin (Some l) = address_size (address_of l) ≤ n

  linked : (o : Option (Option (Hyperlink A))) → IsLinkWithin o
      → IsWithin n (option_map command.SetHyperlink o)
  linked None h = tt
  linked (Some l) h = h

  to_within : (es : Pairs) (b : Bool) (uri : List ℕ) → capped (value_size uri) ≤ n
      → IsLinkWithin (option_map (λ u. Some (link_to es u)) (if b then Some uri else None))
  to_within es true uri h =
      omega (arith, h, address_if_size (is_page_address uri) uri refl)
  to_within es false uri h = tt

  with_params : (o : Option Pairs) (b : Bool) (uri : List ℕ) → capped (value_size uri) ≤ n
      → IsLinkWithin (and_then o (λ es.
      option_map (λ u. Some (link_to es u)) (if b then Some uri else None)))
  with_params None b uri h = tt
  with_params (Some es) b uri h = to_within es b uri h

  in_within : (p uri : List ℕ) → capped (value_size uri) ≤ n → IsLinkWithin (link_in p uri)
  in_within [] [] h = omega arith
  in_within [] (u ∷ us) h = with_params (params_of []) (is_utf8 (u ∷ us)) (u ∷ us) h
  in_within (p ∷ ps) uri h = with_params (params_of (p ∷ ps)) (is_utf8 uri) uri h

  link_within : (t : List ℕ) (args : List (List ℕ)) → capped (parts_size args) ≤ n
      → IsLinkWithin (link_of (t ∷ args))
  link_within t [] h = tt
  link_within t (p ∷ []) h = tt
  link_within t (p ∷ uri ∷ []) h =
      let less = last_part p uri in
      in_within p uri (omega (
        arith,
        h,
        capped_less (value_size uri)
            (parts_size (p ∷ uri ∷ [])) less,
      ))
  link_within t (p ∷ uri ∷ q ∷ args) h = tt

  -- ---- codes

  reading_within : (c : OperatingSystemCommandCode) (t : List ℕ) (args : List (List ℕ))
      → capped (parts_size args) ≤ n → IsWithin n (reading {A = A} c t args)
  reading_within code.SetIconNameAndWindowTitle t args h =
      mapped command.SetIconNameAndWindowTitle (λ x. refl) (title_of args)
  reading_within code.SetIconName t args h =
      mapped command.SetIconName (λ x. refl) (title_of args)
  reading_within code.SetWindowTitle t args h =
      mapped command.SetWindowTitle (λ x. refl) (title_of args)
  reading_within code.ChangeColorNumber t args h =
      mapped command.ChangeColorNumber (λ x. refl) (pairs_of args)
  reading_within code.SetCurrentWorkingDirectory t args h =
      mapped command.CurrentWorkingDirectory (λ x. refl) (lone_text args)
  reading_within code.SetHyperlink t args h = linked (link_of (t ∷ args)) (link_within t args h)
  reading_within code.SystemNotification t args h =
      notified_within (progress_of args) (lone_text args)
  reading_within code.ManipulateSelectionData t args h = selected_within args
  reading_within code.ResetColors t args h =
      mapped command.ResetColors (λ x. refl) (numbers_of args)
  reading_within code.FinalTermSemanticPrompt t args h =
      mapped command.FinalTermSemanticPrompt (λ x. refl) (prompt_of args)
  reading_within code.RxvtProprietary t args h = omega arith
  reading_within code.ITermProprietary t args h =
      mapped command.ITermProprietary (λ x. refl) (iterm_of args)
  reading_within code.SetWindowTitleSun t args h =
      mapped command.SetWindowTitleSun (λ x. refl) (utf8_of (drop 1 t))
  reading_within code.SetIconNameSun t args h =
      mapped command.SetIconNameSun (λ x. refl) (utf8_of (drop 1 t))
  reading_within c t args h = dynamic_within (changed_by c) (reset_by c) args

  named_within : (o : Option OperatingSystemCommandCode) (t : List ℕ) (args : List (List ℕ))
      → capped (parts_size args) ≤ n → IsWithin n (and_then o (λ c. reading {A = A} c t args))
  named_within None t args h = tt
  named_within (Some c) t args h = reading_within c t args h

  fitting_within : (ps : List (List ℕ)) → capped (parts_size ps) ≤ n
      → IsWithin n (fitting {A = A} ps)
  fitting_within [] h = tt
  fitting_within (p ∷ args) h =
      let t = utf8_lossy p in
      let less = fewer_parts p args in
      named_within (code_of (code_name t args)) t args
      (omega (arith, h, capped_less (parts_size args) (parts_size (p ∷ args)) less))

  or_within : (o : Option (OperatingSystemCommand A)) (ps : List (List ℕ))
      → capped (parts_size ps) ≤ n → IsWithin n o
      → command_size (unwrap_or o (command.Unspecified ps)) ≤ n
  or_within None ps most h =
      omega (
        arith,
        most,
        in_parts_size (address_in ps),
        capped_less (parts_size (address_in ps)) (parts_size ps) (fewer_in ps),
      )
  or_within (Some c) ps most h = h

-- the meaning of parts
pub meant_within : (A : Type 0) (ps : List (List ℕ))
    → command_size (meaning {A = A} ps) ≤ capped (parts_size ps)
meant_within A ps =
    let n = capped (parts_size ps) in
    let same : capped (parts_size ps) ≤ n = omega arith in
    or_within A n (fitting {A = A} ps) ps same (fitting_within A n ps same)
