pub mod LinksBack
pub mod PairsOrder
pub mod PairsRead
pub mod ParamsBack
pub mod ParamsSeen
