-- A value's text with a mark behind it: nothing is trimmed, the mark is taken off and told.
-- Assumes nothing.
use mathlib.Core.Path.{◌≡◌, refl, sym, ap, ◌∙◌}
use mathlib.Core.Bool.{Bool, true, false, ◌||◌}
use mathlib.Core.List.{List, [], ◌∷◌, ◌++◌, append-nil}
use Prim.Native.Nat.{ℕ, ◌-◌, ◌≤◌}
use native.Mathlib.Omega.{arith}
use borrow.Author.Tests.{ne_eqb}
use lib.Dec.{lit<}
use lib.ListN.{length, get_or, take, length-append}
use lib.Seq.{take_at, get_or_at}
use Rattle.chars.specs.Pick.{pick}
use Rattle.refusals.specs.declared.FileSpan.{FileSpan}
use Rattle.chunks.specs.Plain.{plain_byte}
use Rattle.datefield.specs.Text.{last_byte, is_uncertain, is_approximate, unmarked}
use Rattle.datefield.specs.Value.{value, marked, trimmed_date, parse_text}
use Rattle.strict.specs.Grammar.{Mark, no_mark, uncertain, approximate, both}
use Rattle.roundtrip_laws.proofs.Bytes.{each_append, each_at, each_of, Clear, InValue, ValueText, low_same, value-clear, clear-trimmed}
use Rattle.roundtrip_laws.proofs.Bytes.Each.{none, more}

-- a mark is a printing character of its own upper case
tilde-same : plain_byte true 0x7E ≡ 0x7E
unfolding plain_byte pick
tilde-same = refl

mark-clear : {t : List ℕ} {u a : Bool} → Mark t u a → Clear t
mark-clear no_mark = none
mark-clear uncertain = more {x = 0x3F} (record { low = lit< tt; high = lit< tt; own = low_same 0x3F (lit< tt) }) none
mark-clear approximate = more {x = 0x7E} (record { low = lit< tt; high = lit< tt; own = tilde-same }) none
mark-clear both = more {x = 0x25} (record { low = lit< tt; high = lit< tt; own = low_same 0x25 (lit< tt) }) none

pub mark-short : {t : List ℕ} {u a : Bool} → Mark t u a → length t ≤ 1
mark-short no_mark = omega arith
mark-short uncertain = omega arith
mark-short approximate = omega arith
mark-short both = omega arith

pub text-clear : {s t : List ℕ} {u a : Bool} → ValueText s → Mark t u a → Clear (s ++ t)
text-clear v m = each_append (each_of value-clear v.in_value) (mark-clear m)

-- no byte of a value is a mark
value-mark : (c : ℕ) → InValue c → (is_uncertain c ≡ false) × (is_approximate c ≡ false)
unfolding is_uncertain is_approximate
value-mark c h =
    rw (h.unmarked, ne_eqb c 0x25 (λ (e : c ≡ 0x25). omega arith), ne_eqb c 0x7E (λ (e : c ≡ 0x7E). omega arith)) (refl, refl)

module _ (s : List ℕ) (m : ℕ) where
  one_more : length (s ++ m ∷ []) - 1 ≡ length s
  one_more = let e = length-append s (m ∷ []) in omega arith

  last-is : last_byte (s ++ m ∷ []) ≡ m
  unfolding last_byte
  last-is = get_or_at s m [] 0 (length (s ++ m ∷ []) - 1) (sym one_more)

  without-it : take (length (s ++ m ∷ []) - 1) (s ++ m ∷ []) ≡ s
  without-it = take_at s (m ∷ []) (length (s ++ m ∷ []) - 1) (sym one_more)

module _ (span : FileSpan) {s : List ℕ} (v : ValueText s) where
  -- one mark is taken off and told
  one-mark : (m : ℕ) → is_uncertain m || is_approximate m ≡ true → trimmed_date span (s ++ m ∷ []) ≡ marked (is_uncertain m) (is_approximate m) (value span s)
  unfolding trimmed_date unmarked pick
  one-mark m h = rw (last-is s m, h, without-it s m)

  not-marked : trimmed_date span s ≡ marked false false (value span s)
  unfolding trimmed_date unmarked last_byte pick
  not-marked =
      let n = value-mark (get_or s (length s - 1) 0) (each_at v.in_value (length s - 1) (omega arith)) in
      rw (n.0, n.1)

  mark-read : {t : List ℕ} {u a : Bool} → Mark t u a → trimmed_date span (s ++ t) ≡ marked u a (value span s)
  unfolding is_uncertain is_approximate
  mark-read no_mark = rw (append-nil s) not-marked
  mark-read uncertain = one-mark 0x3F refl
  mark-read approximate = one-mark 0x7E refl
  mark-read both = one-mark 0x25 refl

  -- the whole text is read as its value with its mark
  pub text-marked : {t : List ℕ} {u a : Bool} → Mark t u a → parse_text span (s ++ t) ≡ marked u a (value span s)
  unfolding parse_text
  text-marked m = ap (trimmed_date span) (clear-trimmed (text-clear v m)) ∙ mark-read m
