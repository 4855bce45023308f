pub mod Tables
pub mod Images
mod ImagesFound
pub mod ImagesWhole
pub mod Whole
pub mod SixelsFound
pub mod SixelsFew
mod ValuesBack
mod ItemsBack
mod FilesBack
pub mod CommandsBack
mod RowsSame
mod NamesBack
