-- Lists that grow by values.
pub mod ValueAtTheEnd
pub mod AppendedOneByOne
