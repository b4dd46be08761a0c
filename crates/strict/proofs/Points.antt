-- What a reader of points owes to the points of a grammar: from this the reader of texts over it is exact. Assumes nothing.
use mathlib.Core.Path.{◌≡◌}
use mathlib.Core.Bool.{false}
use Prim.Native.Nat.{ℕ}
use Prim.Native.Char.{code}
use mathlib.Core.List.{List}
use lib.ListN.{get_or, drop}
use Rattle.chars.specs.Classes.{is_ascii_digit}
use Rattle.dates.specs.declared.Datetime.{Datetime}
use Rattle.std.specs.Prelude.{Option, Some, None}
use Rattle.strict.specs.Matcher.{is, unknown}
use Rattle.strict.proofs.Places.{From, Split}

-- what may follow a point: nothing that could go on with it
pub record Ends (r : List ℕ) : Type 0 where
  pub dash : is (code "-") r 0 ≡ false
  pub tee : is (code "T") r 0 ≡ false
  pub zed : is (code "Z") r 0 ≡ false
  pub plus : is (code "+") r 0 ≡ false
  pub digit : is_ascii_digit (get_or r 0 0) ≡ false

-- a reader that goes as far as r, and says so of the place where r starts
pub record Before (s r : List ℕ) (says : ℕ → Type 0) : Type 0 where
  pub place : ℕ
  pub left : From s place r
  pub reads : says place

-- an answer that a derivation stands behind
pub data Derived (P : List ℕ → Datetime → Type 0) (s : List ℕ) : Option (Datetime × ℕ) → Type 0 where
  nothing : Derived P s None
  upto : {t : List ℕ} {a : Datetime} {next : ℕ} → P t a → Split s t (drop next s) → Derived P s (Some (a, next))

pub record Exact (P : List ℕ → Datetime → Type 0) (read : List ℕ → Option (Datetime × ℕ)) : Type 0 where
  -- what it reads is derived
  pub sound : (s : List ℕ) → Derived P s (read s)
  -- what is derived it reads
  pub complete : {s t r : List ℕ} {a : Datetime} → Ends r → P t a → Split s t r → Before s r (λ n. read s ≡ Some (a, n))
  -- no range by X starts like a point
  pub known : {s t r : List ℕ} {a : Datetime} → Ends r → P t a → Split s t r → unknown s ≡ None
  -- nor does an open end
  pub closed : {s t r : List ℕ} {a : Datetime} → P t a → Split s t r → is (code ".") s 0 ≡ false
