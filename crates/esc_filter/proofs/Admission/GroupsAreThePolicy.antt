-- The groups of a policy admit the values that the policy admits.
use Rattle.std.proofs.Common.{◌≡◌, ℕ, Bool, true, false, not, ◌&&◌, ◌||◌, ◌==◌, if◌then◌else◌, List, Option, Some, None, refl, sym, ap, ◌∙◌, arith}
use Rattle.std.proofs.lemmas.Bool.{and_parts}
use Rattle.std.proofs.lemmas.Bool.Decides.{nat_tests}
use Rattle.std.specs.List.{list_all}
use Rattle.esc_sequences.specs.Csis.{CsiValue, sgr, unspecified}
use Rattle.esc_sequences.specs.declared.esc.Esc.{Esc}
use Rattle.esc_values.specs.Params.{is_from}
use Rattle.esc_values.specs.declared.csi_param.CsiParam.{CsiParam}
use Rattle.control_functions.specs.Effects.{changes_screen}
use Rattle.control_functions.specs.EscapeEffects.{changes_screen as escape_changes_screen}
use Rattle.control_functions.specs.Escapes.{escape_of_name as escape_named}
use Rattle.control_functions.specs.Functions.{function_of, sequence_key}
use Rattle.control_functions.specs.declared.control_function.ControlFunction.{ControlFunction}
use Rattle.control_functions.specs.declared.control_function.ControlFunction.TheVariants as function
use Rattle.control_functions.specs.declared.escape_function.EscapeFunction.{EscapeFunction}
use Rattle.control_functions.specs.declared.escape_function.EscapeFunction.TheVariants as escape_function
use Rattle.control_functions.proofs.Controls.{by_code}
use Rattle.control_functions.proofs.Escapes.{sheet as escape_sheet}
use Rattle.control_functions.proofs.Functions.{sheet}
use Rattle.control_functions.proofs.Tables.{of_each}
use Rattle.esc_osc.specs.declared.command.OperatingSystemCommand.{OperatingSystemCommand}
use Rattle.esc_osc.specs.declared.command.OperatingSystemCommand.TheVariants as command
use Rattle.esc_actions.specs.ControlCodes.{code_number}
use Rattle.esc_actions.specs.Values.{Value}
use Rattle.esc_actions.specs.Values.Value.{print, string, control, esc, csi, osc, kitty, sixel, termcap, short, enter, datum, exit}
use Rattle.esc_filter.specs.Addresses.{address_in, has_parts}
use Rattle.esc_filter.specs.Concealed.{conceals}
use Rattle.esc_filter.specs.Groups.{admits_groups, group_of, groups_of, has, of_command, of_control, of_escape_function, of_function, of_named, of_escape_named, of_rendition, place, shows}
use Rattle.esc_filter.specs.Rules.{admits, changes_with, escape_changes_with, is_clean_link, is_clean_part, is_color, is_escape_function, is_hyperlink, is_layout, is_link, is_palette, is_plain_param, is_screen, is_screen_control, is_screen_function, is_set, is_set_pair, is_shown, is_text}
use Rattle.esc_filter.specs.Tokens.{AdmitsAtMost}
use Rattle.esc_filter.specs.Schemes.{leads}
use Rattle.esc_filter.specs.declared.group.Group.{Group}
use Rattle.esc_filter.specs.declared.group.Group.TheVariants as group
use Rattle.esc_filter.specs.declared.groups.Groups.{Groups}
use Rattle.esc_filter.specs.declared.policy.Policy.{Policy}
use Rattle.esc_filter.specs.declared.policy.Policy.TheVariants as policy

-- the decision of a policy about a value that is text, colour, or changes the screen alone
abbrev rule : Policy → Bool → Bool → Bool → Bool
rule policy.Text t c s = t
rule policy.Color t c s = t || c
rule policy.Screen t c s = t || (c || s)
rule policy.All t c s = true

ruled : {A : Type 0} (p : Policy) (v : Value A)
    → rule p (is_text v) (is_color v) (is_screen v) ≡ admits p v
ruled policy.Text v = refl
ruled policy.Color v = refl
ruled policy.Screen v = refl
ruled policy.All v = refl

abbrev chosen : Policy → Group → Bool
chosen p c = has (groups_of p) c

titles : (p : Policy) → chosen p group.Titles ≡ rule p false false false
unfolding place
titles policy.Text = refl
titles policy.Color = refl
titles policy.Screen = refl
titles policy.All = refl

clipboard : (p : Policy) → chosen p group.Clipboard ≡ rule p false false false
unfolding place
clipboard policy.Text = refl
clipboard policy.Color = refl
clipboard policy.Screen = refl
clipboard policy.All = refl

images : (p : Policy) → chosen p group.Images ≡ rule p false false false
unfolding place
images policy.Text = refl
images policy.Color = refl
images policy.Screen = refl
images policy.All = refl

other : (p : Policy) → chosen p group.Other ≡ rule p false false false
unfolding place
other policy.Text = refl
other policy.Color = refl
other policy.Screen = refl
other policy.All = refl

-- a link, which has neither DEL nor a character that deceives, or has
links : (p : Policy) (b : Bool)
    → (((false || b) || chosen p group.Other) && chosen p group.Links) ≡ rule p false b false
unfolding place
links policy.Text true = refl
links policy.Text false = refl
links policy.Color true = refl
links policy.Color false = refl
links policy.Screen true = refl
links policy.Screen false = refl
links policy.All true = refl
links policy.All false = refl

-- one whose address is in parts, or none
parts : (p : Policy) (h b : Bool)
    → (((not h || (h && b)) || chosen p group.Other)
    && chosen p (if h then group.Links else group.Other)) ≡ rule p false (h && b) false
parts p true b = links p b
parts p false b = other p

renditions : (p : Policy) (k s : Bool)
    → chosen p (if k then group.Hidden else group.Sgr) ≡ rule p false true s
unfolding place
renditions policy.Text true s = refl
renditions policy.Text false s = refl
renditions policy.Color true s = refl
renditions policy.Color false s = refl
renditions policy.Screen true s = refl
renditions policy.Screen false s = refl
renditions policy.All true s = refl
renditions policy.All false s = refl

shown : (p : Policy) (b : Bool)
    → chosen p (if b then group.Characters else group.Other) ≡ rule p b false false
unfolding place
shown policy.Text true = refl
shown policy.Text false = refl
shown policy.Color true = refl
shown policy.Color false = refl
shown policy.Screen true = refl
shown policy.Screen false = refl
shown policy.All true = refl
shown policy.All false = refl

colours : (p : Policy) (b : Bool)
    → chosen p (if b then group.Palette else group.Other) ≡ rule p false false b
unfolding place
colours policy.Text true = refl
colours policy.Text false = refl
colours policy.Color true = refl
colours policy.Color false = refl
colours policy.Screen true = refl
colours policy.Screen false = refl
colours policy.All true = refl
colours policy.All false = refl

controls : (p : Policy) (l k s : Bool)
    → chosen p (if l then group.Layout else if k then group.Controls else if s then group.Charsets
    else group.Other) ≡ rule p l false (l || (k || s))
unfolding place
controls policy.Text true k s = refl
controls policy.Text false true s = refl
controls policy.Text false false true = refl
controls policy.Text false false false = refl
controls policy.Color true k s = refl
controls policy.Color false true s = refl
controls policy.Color false false true = refl
controls policy.Color false false false = refl
controls policy.Screen true k s = refl
controls policy.Screen false true s = refl
controls policy.Screen false false true = refl
controls policy.Screen false false false = refl
controls policy.All true k s = refl
controls policy.All false true s = refl
controls policy.All false false true = refl
controls policy.All false false false = refl

-- BEL, SO, SI and the controls 08 to 0D are those of these groups
between : (n : ℕ) → (is_layout n || (((n == 0x07) || ((n == 0x08) || ((n == 0x0b)
    || (n == 0x0c)))) || ((n == 0x0e) || (n == 0x0f))))
    ≡ (is_from 0x08 0x0d n || ((n == 0x07) || ((n == 0x0e) || (n == 0x0f))))
between n = grind (arith, nat_tests)

each_control : (n : ℕ) → (is_layout n || (((n == 0x07) || ((n == 0x08) || ((n == 0x0b)
    || (n == 0x0c)))) || ((n == 0x0e) || (n == 0x0f)))) ≡ is_screen_control n
each_control n =
    between n ∙ ap (λ b. b || ((n == 0x07) || ((n == 0x0e) || (n == 0x0f)))) (by_code n)

control_ruled : (p : Policy) (n : ℕ)
    → chosen p (of_control n) ≡ rule p (is_layout n) false (is_screen_control n)
control_ruled p n =
    controls p (is_layout n) ((n == 0x07) || ((n == 0x08) || ((n == 0x0b) || (n == 0x0c))))
    ((n == 0x0e) || (n == 0x0f))
    ∙ ap (rule p (is_layout n) false) (each_control n)

-- no function is text or colour, and a function that changes the screen alone is in a group of such
-- functions
no_text : (f : ControlFunction) → chosen policy.Text (of_function f) ≡ false
unfolding place of_function
no_text = of_each sheet (λ f. chosen policy.Text (of_function f)) (λ f. false) refl

no_color : (f : ControlFunction) → chosen policy.Color (of_function f) ≡ false
unfolding place of_function
no_color = of_each sheet (λ f. chosen policy.Color (of_function f)) (λ f. false) refl

in_screen : (f : ControlFunction)
    → (not (changes_screen f) || chosen policy.Screen (of_function f)) ≡ true
unfolding place of_function changes_screen
in_screen =
    of_each sheet (λ f. not (changes_screen f) || chosen policy.Screen (of_function f))
    (λ f. true) refl

row_in_screen : (f : ControlFunction) → changes_screen f ≡ true
    → chosen policy.Screen (of_function f) ≡ true
row_in_screen f h = let k = in_screen f in rw h at k

is_in_screen : (f : ControlFunction) (e : List CsiParam) → changes_with f e ≡ true
    → chosen policy.Screen (of_function f) ≡ true
unfolding place of_function changes_with
is_in_screen function.SM e h = refl
is_in_screen function.RM e h = refl
is_in_screen function.DECSET e h = refl
is_in_screen function.DECRST e h = refl
is_in_screen function.DECSCUSR e h = refl
is_in_screen f e h = row_in_screen f h

in_all : (c : Group) → chosen policy.All c ≡ true
unfolding place
in_all group.Characters = refl
in_all group.Layout = refl
in_all group.Sgr = refl
in_all group.Hidden = refl
in_all group.Links = refl
in_all group.Controls = refl
in_all group.Cursor = refl
in_all group.Erase = refl
in_all group.Scroll = refl
in_all group.Modes = refl
in_all group.Charsets = refl
in_all group.Palette = refl
in_all group.Titles = refl
in_all group.Clipboard = refl
in_all group.Images = refl
in_all group.Other = refl

some_ruled : (p : Policy) (f : ControlFunction) (e : List CsiParam) (b : Bool)
    → changes_with f e ≡ b
    → chosen p (if b then of_function f else group.Other) ≡ rule p false false b
some_ruled p f e false h = other p
some_ruled policy.Text f e true h = no_text f
some_ruled policy.Color f e true h = no_color f
some_ruled policy.Screen f e true h = is_in_screen f e h
some_ruled policy.All f e true h = in_all (of_function f)

named_ruled : (p : Policy) (o : Option ControlFunction) (e : List CsiParam)
    → chosen p (of_named o e) ≡ rule p false false (is_screen_function o e)
named_ruled p None e = other p
named_ruled p (Some f) e = some_ruled p f e (changes_with f e) refl

-- no function is text or colour, and a function that changes the screen alone is in a group of such
-- functions
escape_no_text : (f : EscapeFunction) → chosen policy.Text (of_escape_function f) ≡ false
unfolding place of_escape_function
escape_no_text =
    of_each escape_sheet (λ f. chosen policy.Text (of_escape_function f)) (λ f. false) refl

escape_no_color : (f : EscapeFunction) → chosen policy.Color (of_escape_function f) ≡ false
unfolding place of_escape_function
escape_no_color =
    of_each escape_sheet (λ f. chosen policy.Color (of_escape_function f)) (λ f. false) refl

escape_in_screen : (f : EscapeFunction)
    → (not (escape_changes_screen f) || chosen policy.Screen (of_escape_function f)) ≡ true
unfolding place of_escape_function escape_changes_screen
escape_in_screen =
    of_each escape_sheet
    (λ f. not (escape_changes_screen f) || chosen policy.Screen (of_escape_function f)) (λ f. true)
    refl

escape_row_in_screen : (f : EscapeFunction) → escape_changes_screen f ≡ true
    → chosen policy.Screen (of_escape_function f) ≡ true
escape_row_in_screen f h = let k = escape_in_screen f in rw h at k

escape_is_in_screen : (f : EscapeFunction) (e : Esc) → escape_changes_with f e ≡ true
    → chosen policy.Screen (of_escape_function f) ≡ true
unfolding place of_escape_function escape_changes_with
escape_is_in_screen escape_function.GZD4 e h = refl
escape_is_in_screen escape_function.G1D4 e h = refl
escape_is_in_screen escape_function.G2D4 e h = refl
escape_is_in_screen escape_function.G3D4 e h = refl
escape_is_in_screen f e h = escape_row_in_screen f h

escape_some_ruled : (p : Policy) (f : EscapeFunction) (e : Esc) (b : Bool)
    → escape_changes_with f e ≡ b
    → chosen p (if b then of_escape_function f else group.Other) ≡ rule p false false b
escape_some_ruled p f e false h = other p
escape_some_ruled policy.Text f e true h = escape_no_text f
escape_some_ruled policy.Color f e true h = escape_no_color f
escape_some_ruled policy.Screen f e true h = escape_is_in_screen f e h
escape_some_ruled policy.All f e true h = in_all (of_escape_function f)

escape_named_ruled : (p : Policy) (o : Option EscapeFunction) (e : Esc)
    → chosen p (of_escape_named o e) ≡ rule p false false (is_escape_function o e)
escape_named_ruled p None e = other p
escape_named_ruled p (Some f) e = escape_some_ruled p f e (escape_changes_with f e) refl

body_ruled : (p : Policy) (es : List CsiParam) (o : Option ControlFunction) (b : Bool)
    → chosen p (if b then of_rendition es else of_named o es)
    ≡ rule p false b (is_screen_function o es)
body_ruled p es o true = renditions p (conceals es) (is_screen_function o es)
body_ruled p es o false = named_ruled p o es

csi_ruled : (A : Type 0) (p : Policy) (c : CsiValue)
    → chosen p (group_of {A = A} (csi c))
    ≡ rule p (is_text {A = A} (csi c)) (is_color {A = A} (csi c)) (is_screen {A = A} (csi c))
csi_ruled A p (sgr s) = renditions p false true
csi_ruled A p (unspecified es more f) =
    body_ruled p es (function_of (sequence_key es f)) ((f == 0x6d) && list_all is_plain_param es)

osc_ruled : {A : Type 0} (p : Policy) (c : OperatingSystemCommand A)
    → (shows (chosen p group.Other) (osc c) && chosen p (of_command c))
    ≡ rule p false (is_link c) (is_palette c)
osc_ruled p (command.SetHyperlink l) = links p (is_clean_link l)
osc_ruled p (command.SetIconNameAndWindowTitle t) = titles p
osc_ruled p (command.SetIconName t) = titles p
osc_ruled p (command.SetIconNameSun t) = titles p
osc_ruled p (command.SetWindowTitle t) = titles p
osc_ruled p (command.SetWindowTitleSun t) = titles p
osc_ruled p (command.ClearSelection s) = clipboard p
osc_ruled p (command.SetSelection s t) = clipboard p
osc_ruled p (command.ChangeColorNumber ps) = colours p (list_all is_set_pair ps)
osc_ruled p (command.ChangeDynamicColors n cs) = colours p (list_all is_set cs)
osc_ruled p (command.ResetDynamicColor n) = colours p true
osc_ruled p (command.ResetColors ns) = colours p true
osc_ruled p (command.QuerySelection s) = other p
osc_ruled p (command.SystemNotification t) = other p
osc_ruled p (command.ITermProprietary c) = other p
osc_ruled p (command.FinalTermSemanticPrompt c) = other p
osc_ruled p (command.CurrentWorkingDirectory t) = other p
osc_ruled p (command.RxvtExtension ts) = other p
osc_ruled p (command.ConEmuProgress c) = other p
osc_ruled p (command.Unspecified ps) =
    parts p (has_parts (address_in ps)) (list_all is_clean_part ps)

each_ruled : {A : Type 0} (p : Policy) (v : Value A)
    → (shows (chosen p group.Other) v && chosen p (group_of v))
    ≡ rule p (is_text v) (is_color v) (is_screen v)
each_ruled p (print c) = shown p (is_shown c)
each_ruled p (string t) = shown p (list_all is_shown t)
each_ruled p (control c) = control_ruled p (code_number c)
each_ruled p (esc e) = escape_named_ruled p (escape_named e) e
each_ruled {A} p (csi c) = csi_ruled A p c
each_ruled p (osc c) = osc_ruled p c
each_ruled p (kitty i) = images p
each_ruled p (sixel s) = images p
each_ruled p (termcap ns) = other p
each_ruled p (short s) = other p
each_ruled p (enter e) = other p
each_ruled p (datum b) = other p
each_ruled p exit = other p

all_lead : {A : Type 0} (v : Value A) → leads None v ≡ true
all_lead (osc c) = refl
all_lead v = refl

led : (a b : Bool) → a ≡ true → (a && b) ≡ b
led true b h = refl
led false b h = absurd cc

each_leads : {A : Type 0} (p : Policy) (v : Value A) → leads (groups_of p).schemes v ≡ true
each_leads policy.Text v = all_lead v
each_leads policy.Color v = all_lead v
each_leads policy.Screen v = all_lead v
each_leads policy.All v = all_lead v

pub same : {A : Type 0} (p : Policy) (v : Value A) → admits_groups (groups_of p) v ≡ admits p v
same p v =
    led (leads (groups_of p).schemes v) (shows (chosen p group.Other) v && chosen p (group_of v))
    (each_leads p v)
    ∙ each_ruled p v ∙ ruled p v

-- if more pass, no fewer show their kind
or_more : (x a b : Bool) → (a ≡ true → b ≡ true) → (x || a) ≡ true → (x || b) ≡ true
or_more true a b some h = refl
or_more false a b some h = some h

shows_more : {A : Type 0} (a b : Bool) (v : Value A) → (a ≡ true → b ≡ true)
    → shows a v ≡ true → shows b v ≡ true
shows_more a b (osc c) some h = or_more (not (is_hyperlink c) || is_link c) a b some h
shows_more a b v some h = refl

-- some of a policy's groups
pub at_most : {A : Type 0} (p : Policy) (g : Groups)
    → ((c : Group) → has g c ≡ true → has (groups_of p) c ≡ true)
    → AdmitsAtMost {A = A} p (admits_groups g)
at_most p g some v h =
    let q = and_parts (leads g.schemes v) (shows (has g group.Other) v && has g (group_of v)) h in
    let r = and_parts (shows (has g group.Other) v) (has g (group_of v)) q.1 in
    let k = shows_more (has g group.Other) (chosen p group.Other) v (some group.Other) r.0 in
    sym (each_ruled p v ∙ ruled p v)
    ∙ (ap (λ t. t && chosen p (group_of v)) k ∙ some (group_of v) r.1)
