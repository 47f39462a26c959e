-- The shapes that have a name.
use Rattle.std.specs.Prelude.{ℕ, List, Option, Some, None, codes, bytes_eq, if◌then◌else◌}
use Rattle.bincode_shape.specs.declared.shape.Shape.{Shape}
use Rattle.bincode_shape.specs.declared.shape.Shape.TheVariants as shapes

-- the shape of this name
abbrev pub shape_named : List ℕ → Option Shape
shape_named name =
    if bytes_eq name (codes "bool") then Some shapes.Bool else
    if bytes_eq name (codes "char") then Some shapes.Char else
    if bytes_eq name (codes "text") then Some shapes.Text else
    if bytes_eq name (codes "u8") then Some shapes.U8 else
    if bytes_eq name (codes "u16") then Some shapes.U16 else
    if bytes_eq name (codes "u32") then Some shapes.U32 else
    if bytes_eq name (codes "u64") then Some shapes.U64 else
    if bytes_eq name (codes "u128") then Some shapes.U128 else
    if bytes_eq name (codes "usize") then Some shapes.Usize else
    if bytes_eq name (codes "i8") then Some shapes.I8 else
    if bytes_eq name (codes "i16") then Some shapes.I16 else
    if bytes_eq name (codes "i32") then Some shapes.I32 else
    if bytes_eq name (codes "i64") then Some shapes.I64 else
    if bytes_eq name (codes "i128") then Some shapes.I128 else
    if bytes_eq name (codes "isize") then Some shapes.Isize else
    None
