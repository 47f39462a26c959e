pub mod TupleEncoding
