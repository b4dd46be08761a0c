-- Texts of characters up to U+00FF, by their bytes: they have no fault.
-- Assumes nothing.
use mathlib.Core.Path.{◌≡◌, ◌∙◌}
use mathlib.Core.Bool.{true, false, ◌&&◌, ◌||◌, false≢true}
use mathlib.Core.List.{List, [], ◌∷◌}
use Prim.Native.Nat.{ℕ, zero, suc, ◌+◌, ◌≤◌, ◌<◌}
use native.Mathlib.Numerals.{add-one}
use native.Mathlib.Omega.{arith}
use borrow.Author.Tests.{ltb-true, leb-true, le-leb, lt-leb}
use lib.Dec.{ltb, leb}
use lib.ListN.{length, get_or, drop}
use lib.Seq.{drop-cons}
use Rattle.chars.specs.Pick.{pick}
use Rattle.chars.specs.Utf8.{first, is_cont, code2}
use Rattle.chars.specs.Classes.{is_admitted}
use Rattle.chars.specs.declared.Decoded.TheVariants.{Char}
use Rattle.chars.proofs.Cases.{of_test, and-true}
use Rattle.chars.proofs.Classes.{ascii-admitted}
use Rattle.chars.proofs.Laws.{cont, first-ascii, two_is}
use Rattle.std.specs.Prelude.{Ok}
use Rattle.chunks.specs.Characters.{and_then, characters}
use Rattle.chunks.specs.Check.{fault_in}
use Rattle.chunks.specs.Latin.{is_lead, may_follow, all_latin}
use Rattle.chunks.proofs.Plains.{no-characters}
use Rattle.chunks.proofs.Walk.{characters-are}

-- a byte that begins a character
pub lead_is : (b : ℕ) → is_lead b ≡ true → (0xC2 ≤ b) × (b ≤ 0xC3)
unfolding is_lead
lead_is b e = let p = and-true (leb 0xC2 b) (leb b 0xC3) e in (leb-true 0xC2 b p.0, leb-true b 0xC3 p.1)

pub lead-not : (b : ℕ) → b < 0xC2 → is_lead b ≡ false
unfolding is_lead
lead-not b h = rw (lt-leb 0xC2 b h)

-- the parts of what is said of the bytes
module _ (p b : ℕ) (t : List ℕ) (e : all_latin p (b ∷ t) ≡ true) where
  pub latin-front : may_follow p b ≡ true
  unfolding all_latin
  latin-front = (and-true (may_follow p b) (all_latin b t) e).0

  pub latin-rest : all_latin b t ≡ true
  unfolding all_latin
  latin-rest = (and-true (may_follow p b) (all_latin b t) e).1

  pub continues : is_lead p ≡ true → is_cont b ≡ true
  unfolding may_follow pick
  continues h = rw h at latin-front

  pub begins : is_lead p ≡ false → (ltb b 0x80 || is_lead b) ≡ true
  unfolding may_follow pick
  begins h = rw h at latin-front

-- a character of two bytes
module _ (b c : ℕ) (h : is_lead b ≡ true) (k : is_cont c ≡ true) where
  pub pair_is : (t : List ℕ) → first (b ∷ c ∷ t) ≡ Char (code2 b c) 2
  pair_is t =
      let l = lead_is b h in
      let d = cont c k in
      two_is b c t (omega (arith, l.0)) (omega (arith, l.1)) k (omega (arith, l.0, l.1, d.low, d.high))

  pair-admitted : is_admitted (code2 b c) ≡ true
  unfolding is_admitted
  pair-admitted = let l = lead_is b h in let d = cont c k in rw (le-leb (code2 b c) 0xFF (omega (arith, l.0, l.1, d.low, d.high)))

  pub pair-next : is_lead c ≡ false
  pair-next = lead-not c (omega (arith, (cont c k).high))

  pub pair-characters : (t : List ℕ) → characters (b ∷ c ∷ t) ≡ Char (code2 b c) 2 ∷ characters t
  unfolding and_then
  pair-characters t = characters-are (b ∷ c ∷ t) ∙ rw (pair_is t)

pub low-characters : (b : ℕ) (t : List ℕ) → b < 0x80 → characters (b ∷ t) ≡ Char b 1 ∷ characters t
unfolding and_then
low-characters b t h = characters-are (b ∷ t) ∙ rw (first-ascii b t h)

-- a byte that begins a character is not the last
pub open-some : (b : ℕ) → is_lead b ≡ true → all_latin b [] ≡ true → ⊥
unfolding all_latin
open-some b h e = false≢true (rw h at e)

-- no fault
latin-faultless : (n q p : ℕ) (t : List ℕ) → length t ≤ n → is_lead p ≡ false → all_latin p t ≡ true → fault_in q (characters t) ≡ (Ok tt)
unfolding fault_in pick
latin-faultless n q p [] l h e = rw no-characters
latin-faultless zero q p (b ∷ t) l h e = absurd (omega arith)
latin-faultless (suc n) q p (b ∷ []) l h e =
    of_test (ltb b 0x80)
    (λ y. let low = ltb-true b 0x80 y in rw (low-characters b [] low, ascii-admitted b low) (latin-faultless n (q + 1) b [] (omega arith) (lead-not b (omega arith)) (latin-rest p b [] e)))
    (λ y. absurd (open-some b (rw y at (begins p b [] e h)) (latin-rest p b [] e)))
latin-faultless (suc n) q p (b ∷ c ∷ t) l h e =
    of_test (ltb b 0x80)
    (λ y. let low = ltb-true b 0x80 y in rw (low-characters b (c ∷ t) low, ascii-admitted b low) (latin-faultless n (q + 1) b (c ∷ t) (omega arith) (lead-not b (omega arith)) (latin-rest p b (c ∷ t) e)))
    (λ y.
    let lead : is_lead b ≡ true = rw y at (begins p b (c ∷ t) e h) in
    let more = latin-rest p b (c ∷ t) e in
    let k = continues b c t more lead in
    rw (pair-characters b c lead k t, pair-admitted b c lead k) (latin-faultless n (q + 2) c t (omega arith) (pair-next b c lead k) (latin-rest b c t more)))

pub latin-clean : (q : ℕ) (t : List ℕ) → all_latin 0 t ≡ true → fault_in q (characters t) ≡ (Ok tt)
latin-clean q t e = latin-faultless (length t) q 0 t (omega arith) (lead-not 0 (omega arith)) e

-- byte by byte
pub latin-step : (p : ℕ) (t : List ℕ) (i : ℕ) → i < length t → all_latin p (drop i t) ≡ (may_follow p (get_or t i 0) && all_latin (get_or t i 0) (drop (i + 1) t))
unfolding all_latin
latin-step p t i h = rw (add-one, drop-cons t i 0 h)
