-- The value of `a` names an action, which has an image.
use Rattle.std.specs.Prelude.{ℕ, if◌then◌else◌, List, codes, Option, Some, None}
use Rattle.std.specs.Option.{option_map}
use Rattle.esc_kitty.specs.Images.{delete_of, image_display, image_frame, image_shown, transmit_of}
use Rattle.esc_values.specs.Fields.{Values}
use Rattle.esc_kitty.specs.Formats.{compose_of}
use Rattle.esc_kitty.specs.Words.{is}
use Rattle.esc_kitty.specs.declared.verbosity.KittyImageVerbosity.{KittyImageVerbosity}
use Rattle.esc_kitty.specs.declared.image.KittyImage.{KittyImage}
use Rattle.esc_kitty.specs.declared.image.KittyImage.TheVariants as image
use Rattle.esc_kitty.specs.declared.parse.Action.{Action}
use Rattle.esc_kitty.specs.declared.parse.Action.TheVariants as action

-- the action that a value of `a` asks for
abbrev pub action_of : List ℕ → Option Action
action_of w = if is w (codes "t") then Some action.Keep
    else if is w (codes "q") then Some action.Ask
    else if is w (codes "T") then Some action.Show
    else if is w (codes "p") then Some action.Place
    else if is w (codes "d") then Some action.Remove
    else if is w (codes "f") then Some action.Frame
    else if is w (codes "c") then Some action.Compose
    else None

-- the image of keys and a payload, by the action
abbrev pub image_as : {A : Type 0} → Action → KittyImageVerbosity → Values → List ℕ
    → Option (KittyImage A)
image_as action.Keep q v payload = option_map (λ t. image.TransmitData t q) (transmit_of v payload)
image_as action.Ask q v payload = option_map image.Query (transmit_of v payload)
image_as action.Show q v payload = image_shown q v payload
image_as action.Place q v payload = image_display q v
image_as action.Remove q v payload = option_map (λ w. image.Delete w q) (delete_of v)
image_as action.Frame q v payload = image_frame q v payload
image_as action.Compose q v payload = option_map (λ f. image.ComposeFrame f q) (compose_of v)
