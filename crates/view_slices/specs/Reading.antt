-- The plain form of each slice of the code.
use Rattle.view_shapes.specs.declared.file.Opened as code
pub use Rattle.view_statements.specs.Slices.{group, ending, slice, slices, sliced, all_sliced}
use Rattle.view_slices.specs.Slices.{File}

-- a file that owns what it is made of
abbrev pub opened : code.Opened → File
opened f = record { items = f.items; closings = f.closings; rounds = f.rounds; class = f.class }
