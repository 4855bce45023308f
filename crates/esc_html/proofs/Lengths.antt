-- How long parts and pages are.
pub mod LengthOfParts
pub mod StepsPayGrowth
pub mod LengthOfAddress
pub mod BytesPayForEvents
pub mod PageIsBounded
