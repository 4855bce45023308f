-- No step makes a grid that a screen cannot have.
pub mod TabStops
pub mod CursorStaysInside
pub mod StaysSound
