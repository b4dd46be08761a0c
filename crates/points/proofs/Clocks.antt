-- A time that is read has an hour up to 23, a minute and a second up to 59, and an offset up to 23:59.
-- Assumes nothing.
use mathlib.Core.Path.{◌≡◌, refl}
use mathlib.Core.Bool.{Bool, true}
use mathlib.Core.List.{List}
use Prim.Native.Nat.{ℕ, ◌≤◌}
use native.Mathlib.Omega.{arith}
use borrow.Author.Tests.{le-leb}
use Rattle.chars.proofs.Cases.{by-test}
use Rattle.scanner.specs.declared.Class.TheVariants.{Whitespace}
use Rattle.scanner.specs.declared.Cursor.{Cursor}
use Rattle.std.specs.Prelude.{Option, Some, None, Result, Ok, Err}
use Rattle.scanner.specs.Scan.{eat_while, eat_at}
use Rattle.refusals.specs.declared.Kind.TheVariants.{InvalidNumber}
use Rattle.refusals.specs.declared.TextRefusal.{TextRefusal}
use Rattle.dates.specs.Clocks.{offset_in, zone_in, clock_in}
use Rattle.dates.specs.Time.{time, in_range}
use Rattle.dates.specs.declared.TimeOffset.{TimeOffset}
use Rattle.dates.specs.declared.TimeOffset.TheVariants.{Offset}
use Rattle.dates.specs.declared.Time.{Time}
use Rattle.points.specs.Step.{hour_at, sixty_at, colon_at, on_part, on_separator, or_end}
use Rattle.points.specs.Time.{local, shift_at, offset_by, offset_from, offset_at, with_offset, behind_second, behind_minute, behind_hour, time_at}
use Rattle.points.proofs.Ranges.{PartIn, part, nopart, part_in}

-- an offset
pub data ShiftIn : Result TimeOffset TextRefusal → Type 0 where
  shift : {o : TimeOffset} → offset_in o ≡ true → ShiftIn (Ok o)
  noshift : {e : TextRefusal} → ShiftIn (Err e)

-- a time
pub data TimeIn : Result Time TextRefusal → Type 0 where
  clock : {t : Time} → clock_in t ≡ true → TimeIn (Ok t)
  noclock : {e : TextRefusal} → TimeIn (Err e)

-- each step, and what goes on from it
module _ {A : Type 0} (P : A → Type 0) (no : TextRefusal → A) (bad : (e : TextRefusal) → P (no e)) where
  on-part : {high : ℕ} {r : Result (ℕ × Cursor) TextRefusal} {go : ℕ → ℕ → A} → PartIn 0 high r → ((v a : ℕ) → v ≤ high → P (go v a)) → P (on_part no r go)
  unfolding on_part
  on-part (part {v} {c} h) g = g v c.0 (omega (arith, h))
  on-part (nopart {e}) g = bad e

  on-separator : (r : Result Cursor TextRefusal) {go : ℕ → A} → ((a : ℕ) → P (go a)) → P (on_separator no r go)
  unfolding on_separator
  on-separator (Ok c) g = g c.0
  on-separator (Err e) g = bad e

  or-end : (s : List ℕ) (at : ℕ) {x : A} {go : ℕ → A} → P x → ((a : ℕ) → P (go a)) → P (or_end s at x go)
  unfolding or_end
  or-end s at w g = by-test P _ (λ _. w) (λ _. g (eat_while Whitespace s at))

offset-in : (positive : Bool) (h m : ℕ) → h ≤ 23 → m ≤ 59 → offset_in (Offset positive h m) ≡ true
unfolding offset_in
offset-in positive h m l k = rw (le-leb h 23 l, le-leb m 59 k)

module _ (s : List ℕ) where
  shift_in : (at : ℕ) (positive : Bool) → ShiftIn (shift_at s at positive)
  unfolding shift_at hour_at sixty_at
  shift_in at positive =
      on-part ShiftIn Err (λ e. noshift) (part_in s at 0 23 InvalidNumber) λ h next l.
      or-end ShiftIn Err (λ e. noshift) s next (shift (offset-in positive h 0 l (omega arith))) λ a.
      on-separator ShiftIn Err (λ e. noshift) (colon_at s a) λ b.
      on-part ShiftIn Err (λ e. noshift) (part_in s b 0 59 InvalidNumber) λ m _ k.
      shift (offset-in positive h m l k)

  by_in : (a : ℕ) (n : Option (ℕ × Cursor)) → ShiftIn (offset_by s a n)
  unfolding offset_by offset_in
  by_in a (Some (x, c)) =
      by-test ShiftIn _ (λ _. shift refl) λ _.
      by-test ShiftIn _ (λ _. shift_in c.0 true) λ _.
      by-test ShiftIn _ (λ _. shift_in c.0 _) (λ _. noshift)
  by_in a None = noshift

  zone_in_lem : (at : ℕ) → ShiftIn (offset_at s at)
  unfolding offset_at offset_from
  zone_in_lem at = by_in (eat_while Whitespace s at) (eat_at s (eat_while Whitespace s at))

module _ (h m sec : ℕ) (lh : h ≤ 23) (lm : m ≤ 59) (ls : sec ≤ 59) where
  local-in : clock_in (local h m sec) ≡ true
  unfolding clock_in in_range zone_in
  local-in = rw (le-leb h 23 lh, le-leb m 59 lm, le-leb sec 59 ls)

  with_in : {r : Result TimeOffset TextRefusal} → ShiftIn r → TimeIn (with_offset h m sec r)
  unfolding with_offset clock_in in_range zone_in
  with_in (shift {o} e) = clock {t = time h m sec (Some o)} (rw (le-leb h 23 lh, le-leb m 59 lm, le-leb sec 59 ls, e))
  with_in noshift = noclock

module _ (s : List ℕ) where
  second_in : (at h m sec : ℕ) → h ≤ 23 → m ≤ 59 → sec ≤ 59 → TimeIn (behind_second s at h m sec)
  unfolding behind_second
  second_in at h m sec lh lm ls =
      or-end TimeIn Err (λ e. noclock) s at (clock (local-in h m sec lh lm ls)) λ a. with_in h m sec lh lm ls (zone_in_lem s a)

  minute_in : (at h m : ℕ) → h ≤ 23 → m ≤ 59 → TimeIn (behind_minute s at h m)
  unfolding behind_minute sixty_at
  minute_in at h m lh lm =
      or-end TimeIn Err (λ e. noclock) s at (clock (local-in h m 0 lh lm (omega arith))) λ a.
      on-separator TimeIn Err (λ e. noclock) (colon_at s a) λ b.
      on-part TimeIn Err (λ e. noclock) (part_in s b 0 59 InvalidNumber) λ sec next ls.
      second_in next h m sec lh lm ls

  hour_in : (at h : ℕ) → h ≤ 23 → TimeIn (behind_hour s at h)
  unfolding behind_hour sixty_at
  hour_in at h lh =
      or-end TimeIn Err (λ e. noclock) s at (clock (local-in h 0 0 lh (omega arith) (omega arith))) λ a.
      on-separator TimeIn Err (λ e. noclock) (colon_at s a) λ b.
      on-part TimeIn Err (λ e. noclock) (part_in s b 0 59 InvalidNumber) λ m next lm.
      minute_in next h m lh lm

  -- every time behind a T is one
  pub time_in : (at : ℕ) → TimeIn (time_at s at)
  unfolding time_at hour_at
  time_in at = on-part TimeIn Err (λ e. noclock) (part_in s at 0 23 InvalidNumber) λ h next lh. hour_in next h lh
