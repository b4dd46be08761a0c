-- Is anything dated in a period: the walk's answer is that of a reading of all entries, since they stand in order. Assumes nothing.
use mathlib.Core.Path.{◌≡◌, refl, sym, ap, ◌∙◌}
use mathlib.Core.Bool.{Bool, true, false, ◌||◌, false≢true}
use mathlib.Core.List.{List, [], ◌∷◌}
use Prim.Native.Nat.{ℕ, zero, suc, ◌+◌, ◌-◌, ◌≤◌, ◌<◌}
use native.Mathlib.Omega.{arith}
use borrow.Author.Tests.{lt-ltb, le-ltb, ltb-true, ltb-false}
use lib.Dec.{ltb}
use lib.ListN.{length, drop}
use Rattle.chars.specs.Pick.{pick}
use Rattle.days.specs.declared.Period.{Period}
use Rattle.dates.proofs.Less.{lt_not_le}
use Rattle.refusals.specs.declared.Kind.TheVariants.{BadPeriod, BadChronology}
use Rattle.chronology.specs.declared.Entry.{Entry}
use Rattle.refusals.specs.declared.Refusal.{Refusal}
use Rattle.std.specs.Prelude.{Result, Ok}
use Rattle.chronology.specs.Entries.{good_period, before_next, well_kept}
use Rattle.chronology.specs.Store.{Store, Wide, contents, sound, first_where}
use Rattle.chronology.specs.Asked.{begins_after, touches, any_touches, stops, stop_at, entries_read, untold, reply}
use Rattle.chronology.specs.Inside.{row_at, walked}
use Rattle.chronology.proofs.Order.{first-after, before-yes, kept}
use Rattle.chronology.proofs.Columns.{contents-cons, contents-length}
use Rattle.chronology.proofs.Answers.{sound-room, sound-well}

-- behind an entry that begins after the period none touches it
module _ (p : Period) where
  after_none : (e : Entry) → begins_after p e ≡ true → touches p e ≡ false
  unfolding touches begins_after
  after_none e b = rw (lt_not_le p.last e.first b)

  later : (e : Entry) (l : List Entry) → well_kept (e ∷ l) ≡ true → begins_after p e ≡ true → any_touches p l ≡ false
  unfolding any_touches before_next begins_after
  later e [] w b = refl
  later e (x ∷ l) w b =
      let k = kept e (x ∷ l) w in
      let c : begins_after p x ≡ true = first-after p.last e x (before-yes e x k.next) b in
      rw (after_none x c) (later x l k.rest c)

  -- so the entry at which the walk stops decides
  touched : (l : List Entry) (x : Entry) (r : List Entry) → well_kept l ≡ true → drop (first_where (stops p) l) l ≡ x ∷ r → any_touches p l ≡ touches p x
  unfolding first_where any_touches stops pick
  touched [] x r w d = let z : ◌≡◌ {A = ℕ} 0 1 = cc in absurd (omega arith)
  touched (e ∷ l) x r w d = go (stops p e) refl d (touched l x r (kept e l w).rest)
    where
      decided : (t b : Bool) → touches p e ≡ t → begins_after p e ≡ b → t || b ≡ true → t || any_touches p l ≡ t
      decided true b f g h = refl
      decided false true f g h = later e l w g
      decided false false f g h = absurd (false≢true h)

      passed : (t b : Bool) → t || b ≡ false → t ≡ false
      passed true b h = h
      passed false b h = refl

      go : (t : Bool) → touches p e || begins_after p e ≡ t → drop (pick t 0 (suc (first_where (stops p) l))) (e ∷ l) ≡ x ∷ r
          → (drop (first_where (stops p) l) l ≡ x ∷ r → any_touches p l ≡ touches p x) → touches p e || any_touches p l ≡ touches p x
      go true f d again = let y : e ≡ x = cc in decided (touches p e) (begins_after p e) refl refl f ∙ ap (touches p) y
      go false f d again = rw (passed (touches p e) (begins_after p e) f) (again d)

  -- and where none stops it none touches the period
  untouched : (l : List Entry) → length l ≤ first_where (stops p) l → any_touches p l ≡ false
  unfolding first_where any_touches stops pick
  untouched [] h = refl
  untouched (e ∷ l) h = go (touches p e) (begins_after p e) h (untouched l)
    where
      go : (t b : Bool) → suc (length l) ≤ pick (t || b) 0 (suc (first_where (stops p) l)) → (length l ≤ first_where (stops p) l → any_touches p l ≡ false) → t || any_touches p l ≡ false
      go true b h again = absurd (omega arith)
      go false true h again = absurd (omega arith)
      go false false h again = again (omega arith)

-- ---- the walk's reply, in the columns

module _ (s : Store) (p : Period) {i : ℕ} (e : i ≡ stop_at p (contents s)) where
  pub walk-stops : {b : Bool} → i < s.count → b ≡ touches p (row_at s i) → Ok (b, i + 1) ≡ walked s p
  unfolding walked pick
  walk-stops h f = rw (sym e, lt-ltb i s.count h, f)

  pub walk_ends : s.count ≤ i → Ok (false, s.count) ≡ walked s p
  unfolding walked pick
  walk_ends h = rw (sym e, le-ltb i s.count h)

-- ---- the reply

module _ (s : Store) (p : Period) where
  pub reply-bad : sound s ≡ false → untold BadChronology ≡ reply s p
  unfolding reply pick
  reply-bad e = rw e

  pub reply-period : sound s ≡ true → good_period p ≡ false → untold BadPeriod ≡ reply s p
  unfolding reply pick
  reply-period e f = rw (e, f)

  module _ (wide : Wide s) (e : sound s ≡ true) (g : good_period p ≡ true) where
    abbrev place : ℕ
    place = first_where (stops p) (contents s)

    told : (t : Bool) → ltb place s.count ≡ t
        → pick {A = Result (Bool × ℕ) Refusal} t (Ok (touches p (row_at s place), place + 1)) (Ok (false, s.count)) ≡ Ok (any_touches p (contents s), pick t (place + 1) s.count)
    unfolding pick
    told true h =
        let c = contents-cons s (sound-room s wide e) place (ltb-true place s.count h) in
        ap (λ (b : Bool). Ok (b, place + 1)) (sym (touched p (contents s) (row_at s place) (drop (suc place) (contents s)) (sound-well s e) c))
    told false h =
        let n = contents-length s (sound-room s wide e) in
        ap (λ (b : Bool). Ok (b, s.count)) (sym (untouched p (contents s) (omega (arith, n, ltb-false place s.count h))))

    pub reply-walked : walked s p ≡ reply s p
    unfolding walked reply entries_read stop_at pick
    reply-walked = rw (e, g, contents-length s (sound-room s wide e)) (told (ltb place s.count) refl)

-- the number that is read is never above the live count
read-most : (p : Period) (l : List Entry) → entries_read p l ≤ length l
unfolding entries_read stop_at pick
read-most p l = go (ltb (first_where (stops p) l) (length l)) refl
  where
    go : (t : Bool) → ltb (first_where (stops p) l) (length l) ≡ t → pick t (first_where (stops p) l + 1) (length l) ≤ length l
    go true h = omega (arith, ltb-true (first_where (stops p) l) (length l) h)
    go false h = omega arith

-- of a store: never above its count
pub read_live : (s : Store) (p : Period) → Wide s → sound s ≡ true → entries_read p (contents s) ≤ s.count
read_live s p w e = let n = contents-length s (sound-room s w e) in omega (arith, read-most p (contents s))

-- no entry before the first of a sort is of that sort
before-first : (is : Entry → Bool) (l : List Entry) (i : ℕ) {e : Entry} {r : List Entry} → drop i l ≡ e ∷ r → i < first_where is l → is e ≡ false
unfolding first_where pick
before-first is [] i d h = absurd (omega arith)
before-first is (x ∷ l) i {e} {r} d h = go (is x) refl i d h (λ (j : ℕ). before-first is l j)
  where
    go : (t : Bool) → is x ≡ t → (i : ℕ) → drop i (x ∷ l) ≡ e ∷ r → i < pick t 0 (suc (first_where is l))
        → ((j : ℕ) → drop j l ≡ e ∷ r → j < first_where is l → is e ≡ false) → is e ≡ false
    go true q i d h again = absurd (omega arith)
    go false q zero d h again = let y : x ≡ e = cc in ap is (sym y) ∙ q
    go false q (suc i) d h again = again i d (omega arith)

-- and the first is
at_first : (is : Entry → Bool) (l : List Entry) {e : Entry} {r : List Entry} → drop (first_where is l) l ≡ e ∷ r → is e ≡ true
unfolding first_where pick
at_first is [] d = let z : ◌≡◌ {A = ℕ} 0 1 = cc in absurd (omega arith)
at_first is (x ∷ l) {e} {r} d = go (is x) refl d (at_first is l)
  where
    go : (t : Bool) → is x ≡ t → drop (pick t 0 (suc (first_where is l))) (x ∷ l) ≡ e ∷ r → (drop (first_where is l) l ≡ e ∷ r → is e ≡ true) → is e ≡ true
    go true q d again = let y : x ≡ e = cc in ap is (sym y) ∙ q
    go false q d again = again d

-- K9's number, from the list: no entry before the last one read stops the walk,
pub read-before : (p : Period) (l : List Entry) (i : ℕ) {e : Entry} {r : List Entry} → drop i l ≡ e ∷ r → i + 1 < entries_read p l → stops p e ≡ false
unfolding entries_read stop_at pick
read-before p l i {e} {r} d h = before-first (stops p) l i d (go (ltb (first_where (stops p) l) (length l)) refl h)
  where
    go : (t : Bool) → ltb (first_where (stops p) l) (length l) ≡ t → i + 1 < pick t (first_where (stops p) l + 1) (length l) → i < first_where (stops p) l
    go true q h = omega arith
    go false q h = omega (arith, ltb-false (first_where (stops p) l) (length l) q)

-- and the last one read does, if any is left unread
pub read-last : (p : Period) (l : List Entry) {e : Entry} {r : List Entry} → entries_read p l < length l → drop (entries_read p l - 1) l ≡ e ∷ r → stops p e ≡ true
unfolding entries_read stop_at pick
read-last p l {e} {r} h d = go (ltb (first_where (stops p) l) (length l)) refl h d
  where
    go : (t : Bool) → ltb (first_where (stops p) l) (length l) ≡ t → pick t (first_where (stops p) l + 1) (length l) < length l
        → drop (pick t (first_where (stops p) l + 1) (length l) - 1) l ≡ e ∷ r → stops p e ≡ true
    go true q h d = let k : first_where (stops p) l + 1 - 1 ≡ first_where (stops p) l = omega arith in at_first (stops p) l (rw k at d)
    go false q h d = absurd (omega arith)
