-- Functions that leave a terminal as it is.
use Rattle.std.proofs.Common.{◌≡◌, ◌≢◌, ℕ, List, refl, sym, ap}
use Rattle.esc_values.specs.declared.csi_param.CsiParam.{CsiParam}
use Rattle.control_functions.specs.declared.control_function.ControlFunction.{ControlFunction}
use Rattle.control_functions.specs.declared.control_function.ControlFunction.TheVariants as function
use Rattle.control_functions.specs.declared.escape_function.EscapeFunction.{EscapeFunction}
use Rattle.control_functions.specs.declared.escape_function.EscapeFunction.TheVariants as escape
use Rattle.esc_filter.specs.Terminal.{after_escape_function, after_function}
use Rattle.esc_filter.specs.declared.terminal.Terminal.{Terminal}

-- the effect of a function that is named as another
pub function_is : (f g : ControlFunction) (es : List CsiParam) (t : Terminal) → f ≡ g
    → after_function g es t ≡ after_function f es t
function_is f g es t e = sym (ap (λ x. after_function x es t) e)

pub escape_is : (f g : EscapeFunction) (b : ℕ) (t : Terminal) → f ≡ g
    → after_escape_function g b t ≡ after_escape_function f b t
escape_is f g b t e = sym (ap (λ x. after_escape_function x b t) e)

-- the same for control sequences
pub other_function : (f : ControlFunction) (es : List CsiParam) (t : Terminal)
    → f ≢ function.SGR
    → f ≢ function.SM
    → f ≢ function.RM
    → f ≢ function.DECSET
    → f ≢ function.DECRST
    → f ≢ function.XTSAVE
    → f ≢ function.XTRESTORE
    → f ≢ function.DECSTBM
    → f ≢ function.SCOSC
    → f ≢ function.SCORC
    → f ≢ function.XTPOPSGR
    → f ≢ function.XTPOPSGR_2
    → f ≢ function.DECSTR
    → t ≡ after_function f es t
unfolding after_function
other_function function.SGR es t k _ _ _ _ _ _ _ _ _ _ _ _ = absurd (k refl)
other_function function.SM es t _ k _ _ _ _ _ _ _ _ _ _ _ = absurd (k refl)
other_function function.RM es t _ _ k _ _ _ _ _ _ _ _ _ _ = absurd (k refl)
other_function function.DECSET es t _ _ _ k _ _ _ _ _ _ _ _ _ = absurd (k refl)
other_function function.DECRST es t _ _ _ _ k _ _ _ _ _ _ _ _ = absurd (k refl)
other_function function.XTSAVE es t _ _ _ _ _ k _ _ _ _ _ _ _ = absurd (k refl)
other_function function.XTRESTORE es t _ _ _ _ _ _ k _ _ _ _ _ _ = absurd (k refl)
other_function function.DECSTBM es t _ _ _ _ _ _ _ k _ _ _ _ _ = absurd (k refl)
other_function function.SCOSC es t _ _ _ _ _ _ _ _ k _ _ _ _ = absurd (k refl)
other_function function.SCORC es t _ _ _ _ _ _ _ _ _ k _ _ _ = absurd (k refl)
other_function function.XTPOPSGR es t _ _ _ _ _ _ _ _ _ _ k _ _ = absurd (k refl)
other_function function.XTPOPSGR_2 es t _ _ _ _ _ _ _ _ _ _ _ k _ = absurd (k refl)
other_function function.DECSTR es t _ _ _ _ _ _ _ _ _ _ _ _ k = absurd (k refl)
other_function f es t _ _ _ _ _ _ _ _ _ _ _ _ _ = refl

-- the same for escape sequences
pub other_escape_function : (f : EscapeFunction) (b : ℕ) (t : Terminal)
    → f ≢ escape.DECSC
    → f ≢ escape.DECRC
    → f ≢ escape.GZD4
    → f ≢ escape.G1D4
    → f ≢ escape.G2D4
    → f ≢ escape.G3D4
    → f ≢ escape.GZDM4
    → f ≢ escape.G1D6
    → f ≢ escape.G2D6
    → f ≢ escape.G3D6
    → f ≢ escape.LS2
    → f ≢ escape.LS3
    → t ≡ after_escape_function f b t
unfolding after_escape_function
other_escape_function escape.DECSC b t k _ _ _ _ _ _ _ _ _ _ _ = absurd (k refl)
other_escape_function escape.DECRC b t _ k _ _ _ _ _ _ _ _ _ _ = absurd (k refl)
other_escape_function escape.GZD4 b t _ _ k _ _ _ _ _ _ _ _ _ = absurd (k refl)
other_escape_function escape.G1D4 b t _ _ _ k _ _ _ _ _ _ _ _ = absurd (k refl)
other_escape_function escape.G2D4 b t _ _ _ _ k _ _ _ _ _ _ _ = absurd (k refl)
other_escape_function escape.G3D4 b t _ _ _ _ _ k _ _ _ _ _ _ = absurd (k refl)
other_escape_function escape.GZDM4 b t _ _ _ _ _ _ k _ _ _ _ _ = absurd (k refl)
other_escape_function escape.G1D6 b t _ _ _ _ _ _ _ k _ _ _ _ = absurd (k refl)
other_escape_function escape.G2D6 b t _ _ _ _ _ _ _ _ k _ _ _ = absurd (k refl)
other_escape_function escape.G3D6 b t _ _ _ _ _ _ _ _ _ k _ _ = absurd (k refl)
other_escape_function escape.LS2 b t _ _ _ _ _ _ _ _ _ _ k _ = absurd (k refl)
other_escape_function escape.LS3 b t _ _ _ _ _ _ _ _ _ _ _ k = absurd (k refl)
other_escape_function f b t _ _ _ _ _ _ _ _ _ _ _ _ = refl
