-- Numbers, as they are parsed, and optional values.
pub mod AtMostThreeDigits
pub mod ParseIsNumber
pub mod FactsIfSome
pub mod SignedReadsBack
