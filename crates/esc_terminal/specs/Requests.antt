-- The requests of a stream to a terminal.
use Rattle.std.specs.Prelude.{List, [], ◌∷◌, Option, Some, None}
use Rattle.esc_actions.specs.Values.{Value, csi, esc}
use Rattle.typed_functions.specs.Escapes.{of_escape}
use Rattle.typed_functions.specs.Functions.{Value as Function, cursor, device, escape, mode_status, of_csi}
use Rattle.typed_functions.specs.declared.cursor.Cursor.{Cursor}
use Rattle.typed_functions.specs.declared.cursor.Cursor.TheVariants as cursors
use Rattle.typed_functions.specs.declared.device.Device.{Device}
use Rattle.typed_functions.specs.declared.device.Device.TheVariants as devices
use Rattle.typed_functions.specs.declared.escape.Escape.{Escape}
use Rattle.typed_functions.specs.declared.escape.Escape.TheVariants as escapes
use Rattle.typed_functions.specs.declared.mode_status.ModeStatus.{ModeStatus}
use Rattle.typed_functions.specs.declared.mode_status.ModeStatus.TheVariants as statuses
use Rattle.esc_terminal.specs.declared.request.Request.{Request}
use Rattle.esc_terminal.specs.declared.request.Request.TheVariants as request

-- DSR 6
abbrev pub cursor_request : Cursor → Option Request
cursor_request cursors.RequestActivePositionReport = Some request.CursorPosition
cursor_request _ = None

-- DA1, DA2, DA3, XTVERSION, DSR 5
abbrev pub device_request : Device → Option Request
device_request devices.RequestPrimaryDeviceAttributes = Some request.PrimaryAttributes
device_request devices.RequestSecondaryDeviceAttributes = Some request.SecondaryAttributes
device_request devices.RequestTertiaryDeviceAttributes = Some request.TertiaryAttributes
device_request devices.RequestTerminalNameAndVersion = Some request.NameAndVersion
device_request devices.StatusReport = Some request.Status
device_request devices.SoftReset = None

-- DECRQM
abbrev pub mode_request : ModeStatus → Option Request
mode_request (statuses.QueryMode n) = Some (request.ModeState n)
mode_request (statuses.QueryDecPrivateMode n) = Some (request.PrivateModeState n)
mode_request _ = None

-- DECID
abbrev pub escape_request : Escape → Option Request
escape_request escapes.ReturnTerminalId = Some request.PrimaryAttributes
escape_request _ = None

abbrev pub function_request : Function → Option Request
function_request (cursor c) = cursor_request c
function_request (device d) = device_request d
function_request (mode_status s) = mode_request s
function_request (escape e) = escape_request e
function_request _ = None

abbrev pub value_request : {A : Type 0} → Value A → Option Request
value_request (csi c) = function_request (of_csi c)
value_request (esc e) = function_request (of_escape e)
value_request _ = None

abbrev pub request_list : Option Request → List Request
request_list None = []
request_list (Some r) = r ∷ []

-- the requests of a value
abbrev pub requests_of : {A : Type 0} → Value A → List Request
requests_of v = request_list (value_request v)
