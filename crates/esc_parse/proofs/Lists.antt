-- Lists, steps over them, and results.
pub mod ResultIsError
pub mod StepsOverLists
pub mod ListTakesActions
pub mod PrefixOfRest
