-- The parameters of control functions.
use Rattle.std.specs.Prelude.{ℕ, List, [], ◌∷◌, Option, Some, None, Bool, true, false}
use Rattle.control_functions.specs.declared.parameter.Parameter.{Parameter}
use Rattle.control_functions.specs.declared.parameter.Parameter.TheVariants as parameter
use Rattle.control_functions.specs.declared.parameters.Parameters.{Parameters}
use Rattle.control_functions.specs.declared.parameters.Parameters.TheVariants as has

-- the default of a parameter that is left out, if there is one
abbrev pub default_of : Parameter → Option ℕ
default_of parameter.Count = Some 1
default_of parameter.Line = Some 1
default_of parameter.Column = Some 1
default_of parameter.Page = Some 1
default_of parameter.LastLine = None
default_of parameter.LastColumn = None
default_of parameter.GivenLine = None
default_of parameter.GivenColumn = None
default_of parameter.GivenPage = None
default_of (parameter.Selector n) = Some n
default_of parameter.Choice = None
default_of parameter.Mode = None
default_of parameter.PrivateMode = None
default_of parameter.Rendition = Some 0
default_of (parameter.Amount n) = Some n
default_of parameter.Number = None

-- the parameters of a function, in order
abbrev pub each_of : Parameters → List Parameter
each_of has.Nothing = []
each_of has.Count = parameter.Count ∷ []
each_of has.Line = parameter.Line ∷ []
each_of has.Column = parameter.Column ∷ []
each_of has.Place = parameter.Line ∷ parameter.Column ∷ []
each_of has.Page = parameter.Page ∷ []
each_of has.PlaceAndPage = parameter.GivenLine ∷ parameter.GivenColumn ∷ parameter.GivenPage ∷ []
each_of has.Number = parameter.Number ∷ []
each_of has.TwoNumbers = parameter.Number ∷ parameter.Number ∷ []
each_of has.Numbers = parameter.Number ∷ []
each_of has.Amount = (parameter.Amount 0) ∷ []
each_of has.Percentages = (parameter.Amount 100) ∷ (parameter.Amount 100) ∷ []
each_of has.CenteredStop = parameter.Number ∷ (parameter.Amount 32) ∷ []
each_of has.Selector = (parameter.Selector 0) ∷ []
each_of has.SelectorOrOne = (parameter.Selector 1) ∷ []
each_of has.SelectorOrTwo = (parameter.Selector 2) ∷ []
each_of has.TwoSelectors = (parameter.Selector 0) ∷ (parameter.Selector 0) ∷ []
each_of has.ThreeSelectors = (parameter.Selector 0) ∷ (parameter.Selector 0)
    ∷ (parameter.Selector 0) ∷ []
each_of has.Selectors = (parameter.Selector 0) ∷ []
each_of has.Choice = parameter.Choice ∷ []
each_of has.TwoChoices = parameter.Choice ∷ parameter.Choice ∷ []
each_of has.Choices = parameter.Choice ∷ []
each_of has.ChoiceAndNumber = parameter.Choice ∷ parameter.Number ∷ []
each_of has.Conformance = parameter.Choice ∷ (parameter.Selector 0) ∷ []
each_of has.Mode = parameter.Mode ∷ []
each_of has.Modes = parameter.Mode ∷ []
each_of has.ModeState = parameter.Mode ∷ parameter.Choice ∷ []
each_of has.PrivateMode = parameter.PrivateMode ∷ []
each_of has.PrivateModes = parameter.PrivateMode ∷ []
each_of has.PrivateModeState = parameter.PrivateMode ∷ parameter.Choice ∷ []
each_of has.Renditions = parameter.Rendition ∷ []
each_of has.LineMargins = parameter.Line ∷ parameter.LastLine ∷ []
each_of has.ColumnMargins = parameter.Column ∷ parameter.LastColumn ∷ []
each_of has.Rectangle = parameter.Line ∷ parameter.Column ∷ parameter.LastLine
    ∷ parameter.LastColumn ∷ []
each_of has.Area = parameter.GivenLine ∷ parameter.GivenColumn ∷ parameter.GivenLine
    ∷ parameter.GivenColumn ∷ []
each_of has.RectangleRenditions = parameter.Line ∷ parameter.Column ∷ parameter.LastLine
    ∷ parameter.LastColumn ∷ parameter.Rendition ∷ []
each_of has.Copy = parameter.Line ∷ parameter.Column ∷ parameter.LastLine ∷ parameter.LastColumn
    ∷ parameter.Page ∷ parameter.Line ∷ parameter.Column ∷ parameter.Page ∷ []
each_of has.Fill = parameter.Number ∷ parameter.Line ∷ parameter.Column ∷ parameter.LastLine
    ∷ parameter.LastColumn ∷ []
each_of has.Checksum = parameter.Number ∷ parameter.GivenPage ∷ parameter.Line ∷ parameter.Column
    ∷ parameter.LastLine ∷ parameter.LastColumn ∷ []
each_of has.Window = parameter.Choice ∷ parameter.Number ∷ parameter.Number ∷ []
each_of has.Graphics = parameter.Choice ∷ parameter.Choice ∷ parameter.Number ∷ parameter.Number
    ∷ []
each_of has.Highlight = parameter.Choice ∷ parameter.GivenColumn ∷ parameter.GivenLine
    ∷ parameter.GivenLine ∷ parameter.GivenLine ∷ []
each_of has.Mouse = parameter.Number ∷ parameter.GivenColumn ∷ parameter.GivenLine ∷ []
each_of has.Locator = parameter.Choice ∷ parameter.Number ∷ parameter.GivenLine
    ∷ parameter.GivenColumn ∷ parameter.GivenPage ∷ []
each_of has.Extent = parameter.Number ∷ parameter.Number ∷ parameter.GivenColumn
    ∷ parameter.GivenLine ∷ parameter.GivenPage ∷ []
each_of has.Key = parameter.Number ∷ (parameter.Selector 1) ∷ parameter.Number ∷ []
each_of has.KeyEvent = parameter.Number ∷ (parameter.Selector 1) ∷ parameter.Number ∷ []
each_of has.KeyboardFlags = parameter.Number ∷ (parameter.Selector 1) ∷ []
each_of has.ExtraCursors = parameter.Choice ∷ parameter.Number ∷ []
each_of has.Colors = parameter.Choice ∷ parameter.Number ∷ parameter.Number ∷ []
each_of has.Sound = parameter.Number ∷ parameter.Number ∷ parameter.Number ∷ []
each_of has.Win32Key = (parameter.Amount 0) ∷ (parameter.Amount 0) ∷ (parameter.Amount 0)
    ∷ (parameter.Amount 0) ∷ (parameter.Amount 0) ∷ (parameter.Amount 1) ∷ []

-- the last comes any number of times
abbrev pub last_repeats : Parameters → Bool
last_repeats has.Numbers = true
last_repeats has.Selectors = true
last_repeats has.Choices = true
last_repeats has.Modes = true
last_repeats has.PrivateModes = true
last_repeats has.Renditions = true
last_repeats has.RectangleRenditions = true
last_repeats has.ExtraCursors = true
last_repeats has.Sound = true
last_repeats _ = false

-- a parameter may have parts, with colons between them
abbrev pub have_colons : Parameters → Bool
have_colons has.Renditions = true
have_colons has.KeyEvent = true
have_colons has.ExtraCursors = true
have_colons _ = false
