-- The lists of the fields year, month and day, as they are lent.
use Rattle.chunks.specs.Lent.{Three, three, lent_of, optional_of}
use Rattle.reader.specs.declared.ThreeFields.{ThreeFields}

-- the three lists: an absent one has nothing to look at
abbrev pub three_of : ThreeFields → Three
three_of f = three (lent_of f.year) (optional_of f.month) (optional_of f.day)
