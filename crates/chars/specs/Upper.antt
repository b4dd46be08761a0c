-- Upper case: what a character becomes, one character or two.
use Rattle.std.specs.Prelude.{ℕ, ◌-◌, List, [], ◌∷◌, Bool, ◌||◌, eqb}
use Rattle.chars.specs.Pick.{pick}
use Rattle.chars.specs.Classes.{within}
use Rattle.chars.specs.declared.Upper.{Upper}
use Rattle.chars.specs.declared.Upper.TheVariants.{One, Two}

-- a letter whose upper case is 32 below it: ASCII, U+00E0..F6 and F8..FE
unfoldable pub loses32 : ℕ → Bool
loses32 c = within 0x61 0x7A c || within 0xE0 0xF6 c || within 0xF8 0xFE c

-- U+00FF becomes U+0178, U+00B5 becomes U+039C, U+00DF becomes "SS"; any other character stays as it is
unfoldable pub upper_of : ℕ → Upper
upper_of c =
    pick (loses32 c) (One (c - 32))
    (pick (eqb c 0xFF) (One 0x178) (pick (eqb c 0xB5) (One 0x39C) (pick (eqb c 0xDF) (Two 0x53 0x53) (One c))))

-- the one or two characters of an upper case, as a text has them
unfoldable pub codes_of : Upper → List ℕ
codes_of (One a) = a ∷ []
codes_of (Two a b) = a ∷ b ∷ []
