-- The lists of an end, as they are lent.
use Rattle.std.specs.Prelude.{[], Option, None, Some}
use Rattle.chunks.specs.Lent.{Three, lent, absent, three}
use Rattle.reader.specs.declared.ThreeFields.{ThreeFields}
use Rattle.reader.specs.Fields.{three_of}

-- the fields of an end that may be absent: of an absent one there is nothing to look at
abbrev pub end_of : Option ThreeFields → Three
end_of None = three (lent [] []) absent absent
end_of (Some f) = three_of f
