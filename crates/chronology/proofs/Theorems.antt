-- What a chronology holds: after each call, and after any calls from an empty start. Assumes nothing.
use mathlib.Core.Path.{◌≡◌, refl, sym, ap, ◌∙◌, subst}
use mathlib.Core.Bool.{Bool, true, false, false≢true}
use mathlib.Core.List.{List, [], ◌∷◌, ◌++◌}
use Prim.Native.Nat.{ℕ, suc, ◌+◌, ◌-◌, ◌*◌}
use native.Mathlib.Omega.{arith}
use lib.Dec.{eqb, leb}
use lib.IntN.{ℤ}
use lib.ListN.{length, drop}
use borrow.Author.Tests.{eqb-true, eqb-false, ne_eqb}
use Rattle.chars.specs.Pick.{pick}
use Rattle.chars.proofs.Cases.{of_test}
use Rattle.refusals.specs.declared.Refusal.{Refusal}
use Rattle.refusals.specs.declared.Kind.TheVariants.{NoRoom, BadPeriod, DuplicateEntry, ChronologyFull, UnknownEntry}
use Rattle.days.specs.declared.Period.{Period}
use Rattle.chronology.specs.declared.Entry.{Entry}
use Rattle.std.specs.Prelude.{Result, Ok, Err}
use Rattle.chronology.specs.Entries.{before_next, good_period, entry_of, good_days, ids_of, among, has, well_kept, insert, without, listed}
use Rattle.chronology.specs.Store.{Store, Wide, contents, sound, index_of}
use Rattle.chronology.specs.Calls.{refused, accepted, count_answer, add_answer, remove_answer, list_answer, with_entry, without_at, after_add, after_remove, after_list}
use Rattle.chronology.specs.Asked.{any_touches, entries_read, untold, reply}
use Rattle.chronology.specs.History.{Call, adds, removes, counts, lists, asks, accepts, after_call, after_calls, told, history, Empty, sorted, id_times}
use Rattle.chronology.specs.Order.{Before, AllBefore, InOrder}
use Rattle.chronology.specs.Order.AllBefore.{last, next}
use Rattle.chronology.specs.Order.InOrder.{empty, first}
use Rattle.chronology.proofs.Columns.{Room, contents-length}
use Rattle.chronology.proofs.Answers.{sound-room, sound-well, sound-kept, place-below, add-says, remove-says, add_done}
use Rattle.chronology.proofs.Order.{before-yes, before-then, Kept, kept, has_here, has_on, has_none, has-insert, has-without, insert-keeps, without-keeps, without-here, without_on, without-insert, without_other, insert-length}
use Rattle.chronology.proofs.Contents.{more_room, contents-more, less-room, contents-less}

-- a lent store whose entries are well kept is a chronology
sound-if : (s : Store) → Room s → well_kept (contents s) ≡ true → sound s ≡ true
sound-if s r w = sym (sound-kept s r.few) ∙ w

wide_of : (s : Store) → Room s → Wide s
wide_of s r = record { of_firsts = r.of_firsts; of_lasts = r.of_lasts; of_ids = r.of_ids }

-- an accepted add: the entries are those that were and the new one, in its place
module _ (s : Store) (wide : Wide s) (p : Period) (d m : ℕ) (yes : add_answer s p d ≡ Ok m) where
  added_is : after_add s p d ≡ with_entry s (entry_of p d)
  unfolding after_add accepted pick
  added_is = let t : accepted (add_answer s p d) ≡ true = ap accepted yes in rw t

  pub added-contents : contents (after_add s p d) ≡ insert (entry_of p d) (contents s)
  added-contents =
      let w = add-says s p d m yes in
      ap contents added_is ∙ contents-more s (sound-room s wide w.was_sound) (entry_of p d) w.not_full

  pub added-sound : sound (after_add s p d) ≡ true
  unfolding good_days
  added-sound =
      let w = add-says s p d m yes in
      let r = sound-room s wide w.was_sound in
      let e = entry_of p d in
      ap sound added_is
      ∙ sound-if (with_entry s e) (more_room s r e w.not_full)
      (ap well_kept (contents-more s r e w.not_full) ∙ insert-keeps e (contents s) (sound-well s w.was_sound) w.period_good w.id_new)

  pub added-wide : Wide (after_add s p d)
  added-wide =
      let w = add-says s p d m yes in
      let e = entry_of p d in
      subst Wide (sym added_is) (wide_of (with_entry s e) (more_room s (sound-room s wide w.was_sound) e w.not_full))

  pub added-count : (after_add s p d).count ≡ m
  unfolding with_entry
  added-count = ap (λ (t : Store). t.count) added_is ∙ (add-says s p d m yes).one_more

-- an accepted removal: the entries are those that were without the one of the identifier
module _ (s : Store) (wide : Wide s) (d m : ℕ) (yes : remove_answer s d ≡ Ok m) where
  removed-is : after_remove s d ≡ without_at s (index_of d (ids_of (contents s)))
  unfolding after_remove accepted pick
  removed-is = let t : accepted (remove_answer s d) ≡ true = ap accepted yes in rw t

  pub removed-contents : contents (after_remove s d) ≡ without d (contents s)
  removed-contents =
      let w = remove-says s d m yes in
      let r = sound-room s wide w.was_sound in
      ap contents removed-is ∙ contents-less s r d (place-below s d r w.id_there)

  pub removed-sound : sound (after_remove s d) ≡ true
  removed-sound =
      let w = remove-says s d m yes in
      let r = sound-room s wide w.was_sound in
      let h = place-below s d r w.id_there in
      ap sound removed-is
      ∙ sound-if (without_at s (index_of d (ids_of (contents s)))) (less-room s r d h)
      (ap well_kept (contents-less s r d h) ∙ without-keeps d (contents s) (sound-well s w.was_sound))

  pub removed-wide : Wide (after_remove s d)
  removed-wide =
      let w = remove-says s d m yes in
      let r = sound-room s wide w.was_sound in
      let i = index_of d (ids_of (contents s)) in
      subst Wide (sym removed-is) (wide_of (without_at s i) (less-room s r d (place-below s d r w.id_there)))

  pub removed-count : (after_remove s d).count ≡ m
  unfolding without_at
  removed-count = ap (λ (t : Store). t.count) removed-is ∙ (remove-says s d m yes).one_less

  -- the room is used again: an entry that is not there may be added, as the count was
  pub room-again : (p : Period) (c : ℕ) → good_period p ≡ true → has c (contents (after_remove s d)) ≡ false → add_answer (after_remove s d) p c ≡ Ok s.count
  room-again p c g n =
      let w = remove-says s d m yes in
      let r = sound-room s wide w.was_sound in
      let h = place-below s d r w.id_there in
      let k : (after_remove s d).count ≡ s.count - 1 = removed-count ∙ sym w.one_less in
      let f = r.few in
      let below : (after_remove s d).count ≡ 512 → ⊥ = λ (q : (after_remove s d).count ≡ 512). omega arith in
      let one : (after_remove s d).count + 1 ≡ s.count = omega arith in
      sym (add_done (after_remove s d) p c removed-sound g n below) ∙ ap Ok one

-- a refused call changes nothing
pub refused-keeps : (c : Call) (s : Store) → accepts c s ≡ false → after_call c s ≡ s
unfolding accepts after_call after_add after_remove pick
refused-keeps (adds p d) s t = rw t
refused-keeps (removes d) s t = rw t
refused-keeps counts s t = refl
refused-keeps (lists k) s t = refl
refused-keeps (asks p) s t = refl

-- entries with good days, no identifier twice
data Fine : List Entry → Type 0 where
  none : Fine []
  more : {e : Entry} {l : List Entry} → good_days e ≡ true → has e.id l ≡ false → Fine l → Fine (e ∷ l)

has-sorted : (d : ℕ) (l : List Entry) → has d (sorted l) ≡ has d l
unfolding sorted
has-sorted d [] = refl
has-sorted d (e ∷ l) = has-insert d e (sorted l) ∙ go (eqb e.id d) refl (has-sorted d l)
  where
    go : (t : Bool) → eqb e.id d ≡ t → has d (sorted l) ≡ has d l → has d (e ∷ sorted l) ≡ has d (e ∷ l)
    go true q i = let z = eqb-true e.id d q in has_here d e (sorted l) z ∙ sym (has_here d e l z)
    go false q i = let z = eqb-false e.id d q in has_on d e (sorted l) z ∙ i ∙ sym (has_on d e l z)

-- in list order they are well kept
sorted-kept : {l : List Entry} → Fine l → well_kept (sorted l) ≡ true
unfolding sorted well_kept
sorted-kept none = refl
sorted-kept (more {e} {l} g n f) = insert-keeps e (sorted l) (sorted-kept f) g (has-sorted e.id l ∙ n)

fine-without : (d : ℕ) {l : List Entry} → Fine l → Fine (without d l)
unfolding without
fine-without d none = none
fine-without d (more {e} {l} g n f) = go (eqb e.id d) refl (fine-without d f)
  where
    go : (t : Bool) → eqb e.id d ≡ t → Fine (without d l) → Fine (without d (e ∷ l))
    go true q i = subst Fine (sym (without-here d e l (eqb-true e.id d q))) f
    go false q i = subst Fine (sym (without_on d e l (eqb-false e.id d q))) (more g (has-without d e.id l n) i)

-- taken out before or after they are put in order, it is the same
sorted-without : (d : ℕ) {l : List Entry} → Fine l → sorted (without d l) ≡ without d (sorted l)
unfolding sorted without
sorted-without d none = refl
sorted-without d (more {e} {l} g n f) = go (eqb e.id d) refl (sorted-without d f)
  where
    go : (t : Bool) → eqb e.id d ≡ t → sorted (without d l) ≡ without d (sorted l) → sorted (without d (e ∷ l)) ≡ without d (insert e (sorted l))
    go true q i =
        let z = eqb-true e.id d q in
        ap sorted (without-here d e l z) ∙ sym (without-insert d e (sorted l) z (has-sorted d l ∙ subst (λ (k : ℕ). has k l ≡ false) z n))
    go false q i =
        let z = eqb-false e.id d q in
        ap sorted (without_on d e l z) ∙ ap (insert e) i ∙ sym (without_other d e (sorted l) z (sorted-kept f) (has-sorted e.id l ∙ n))

-- what holds after calls
record Told (h : List Call) (s : Store) : Type 0 where
  wide : Wide (after_calls h s)
  keeps : sound (after_calls h s) ≡ true
  holds : contents (after_calls h s) ≡ sorted (history h s)
  fine : Fine (history h s)

-- one call more
module _ (c : Call) (h : List Call) (s : Store) (i : Told h s) where
  still : accepts c (after_calls h s) ≡ false → Told (c ∷ h) s
  unfolding after_calls history pick
  still t =
      let k = refused-keeps c (after_calls h s) t in
      let u : history (c ∷ h) s ≡ history h s = rw t in
      record { wide = subst Wide (sym k) i.wide; keeps = ap sound k ∙ i.keeps; holds = ap contents k ∙ i.holds ∙ ap sorted (sym u); fine = subst Fine (sym u) i.fine }

  more-told : accepts c (after_calls h s) ≡ true → history (c ∷ h) s ≡ told c (history h s)
  unfolding history pick
  more-told t = rw t

-- one that changes nothing
asked : (c : Call) (h : List Call) (s : Store) → Told h s → after_call c (after_calls h s) ≡ after_calls h s → told c (history h s) ≡ history h s → Told (c ∷ h) s
unfolding after_calls
asked c h s i k t = go (accepts c (after_calls h s)) refl
  where
    go : (b : Bool) → accepts c (after_calls h s) ≡ b → Told (c ∷ h) s
    go false q = still c h s i q
    go true q =
        let u = more-told c h s i q ∙ t in
        record { wide = subst Wide (sym k) i.wide; keeps = ap sound k ∙ i.keeps; holds = ap contents k ∙ i.holds ∙ ap sorted (sym u); fine = subst Fine (sym u) i.fine }

is-yes : {a : Result ℕ Refusal} {m : ℕ} → a ≡ Ok m → accepted a ≡ true
unfolding accepted
is-yes q = ap accepted q

is-no : {a : Result ℕ Refusal} {x : Refusal} → a ≡ Err x → accepted a ≡ false
unfolding accepted
is-no q = ap accepted q

one-call : (c : Call) (h : List Call) (s : Store) → Told h s → Told (c ∷ h) s
unfolding after_calls after_call accepts told sorted good_days
one-call (adds p d) h s i = go (add_answer (after_calls h s) p d) refl
  where
    go : (a : Result ℕ Refusal) → add_answer (after_calls h s) p d ≡ a → Told (adds p d ∷ h) s
    go (Err x) q = still (adds p d) h s i (is-no q)
    go (Ok m) q =
        let t = after_calls h s in
        let w = add-says t p d m q in
        let u = more-told (adds p d) h s i (is-yes q) in
        let n : has d (history h s) ≡ false = sym (has-sorted d (history h s)) ∙ ap (has d) (sym i.holds) ∙ w.id_new in
        record {
          wide = added-wide t i.wide p d m q;
          keeps = added-sound t i.wide p d m q;
          holds = added-contents t i.wide p d m q ∙ ap (insert (entry_of p d)) i.holds ∙ ap sorted (sym u);
          fine = subst Fine (sym u) (more w.period_good n i.fine);
        }
one-call (removes d) h s i = go (remove_answer (after_calls h s) d) refl
  where
    go : (a : Result ℕ Refusal) → remove_answer (after_calls h s) d ≡ a → Told (removes d ∷ h) s
    go (Err x) q = still (removes d) h s i (is-no q)
    go (Ok m) q =
        let t = after_calls h s in
        let u = more-told (removes d) h s i (is-yes q) in
        record {
          wide = removed-wide t i.wide d m q;
          keeps = removed-sound t i.wide d m q;
          holds = removed-contents t i.wide d m q ∙ ap (without d) i.holds ∙ sym (sorted-without d i.fine) ∙ ap sorted (sym u);
          fine = subst Fine (sym u) (fine-without d i.fine);
        }
one-call counts h s i = asked counts h s i refl refl
one-call (lists k) h s i = asked (lists k) h s i refl refl
one-call (asks p) h s i = asked (asks p) h s i refl refl

empty-contents : (s : Store) → s.count ≡ 0 → contents s ≡ []
unfolding contents
empty-contents s e = rw e

told-all : (h : List Call) (s : Store) → Empty s → Told h s
unfolding after_calls history sorted well_kept
told-all [] s e =
    let z = empty-contents s e.nothing in
    record { wide = e.wide; keeps = sym (sound-kept s (omega (arith, e.nothing))) ∙ ap well_kept z; holds = z; fine = none }
told-all (c ∷ h) s e = one-call c h s (told-all h s e)

-- after any calls from an empty start a store is a chronology, and its entries are those that the history says, in list order
pub always-sound : (h : List Call) (s : Store) → Empty s → sound (after_calls h s) ≡ true
always-sound h s e = (told-all h s e).keeps

pub always-told : (h : List Call) (s : Store) → Empty s → contents (after_calls h s) ≡ sorted (history h s)
always-told h s e = (told-all h s e).holds

-- as many as the count says
sorted-length : (l : List Entry) → length (sorted l) ≡ length l
unfolding sorted
sorted-length [] = refl
sorted-length (e ∷ l) = insert-length e (sorted l) ∙ ap suc (sorted-length l)

pub always-counted : (h : List Call) (s : Store) → Empty s → (after_calls h s).count ≡ length (history h s)
always-counted h s e =
    let i = told-all h s e in
    sym (contents-length (after_calls h s) (sound-room (after_calls h s) i.wide i.keeps)) ∙ ap length i.holds ∙ sorted-length (history h s)

-- an identifier is there exactly if the history has it
always-has : (h : List Call) (s : Store) → Empty s → (d : ℕ) → has d (contents (after_calls h s)) ≡ has d (history h s)
always-has h s w d = ap (has d) (always-told h s w) ∙ has-sorted d (history h s)

-- what is answered after any calls, by their history alone
module _ (h : List Call) (s : Store) (e : Empty s) where
  pub add-by-history : (p : Period) (d : ℕ)
      → add_answer (after_calls h s) p d
      ≡ pick (good_period p)
      (pick (has d (history h s)) (refused DuplicateEntry)
      (pick (eqb (length (history h s)) 512) (refused ChronologyFull) (Ok (length (history h s) + 1))))
      (refused BadPeriod)
  unfolding add_answer pick
  add-by-history p d = rw (always-sound h s e, always-has h s e d, always-counted h s e)

  pub remove-by-history : (d : ℕ)
      → remove_answer (after_calls h s) d ≡ pick (has d (history h s)) (Ok (length (history h s) - 1)) (refused UnknownEntry)
  unfolding remove_answer pick
  remove-by-history d = rw (always-sound h s e, always-has h s e d, always-counted h s e)

  pub count-by-history : count_answer (after_calls h s) ≡ Ok (length (history h s))
  unfolding count_answer pick
  count-by-history = rw (always-sound h s e, always-counted h s e)

  pub list-answer-by-history : (room : ℕ)
      → list_answer (after_calls h s) room ≡ pick (leb (3 * length (history h s)) room) (Ok (length (history h s))) (refused NoRoom)
  unfolding list_answer pick
  list-answer-by-history room = rw (always-sound h s e, always-counted h s e)

  pub list-by-history : (out : List ℤ)
      → after_list (after_calls h s) out
      ≡ pick (leb (3 * length (history h s)) (length out)) (listed (sorted (history h s)) ++ drop (3 * length (history h s)) out) out
  unfolding after_list accepted refused pick
  list-by-history out =
      of_test (leb (3 * length (history h s)) (length out))
      (λ t. rw (list-answer-by-history (length out), t, always-told h s e, always-counted h s e))
      (λ t. rw (list-answer-by-history (length out), t))

  pub asked-by-history : (p : Period)
      → reply (after_calls h s) p
      ≡ pick (good_period p) (Ok (any_touches p (sorted (history h s)), entries_read p (sorted (history h s)))) (untold BadPeriod)
  unfolding reply pick
  asked-by-history p = rw (always-sound h s e, always-told h s e)

-- what a chronology holds is in order: each entry stands before all behind it
all-before : (e : Entry) (l : List Entry) → before_next e l ≡ true → InOrder l → AllBefore e l
unfolding before_next
all-before e [] t o = last
all-before e (x ∷ l) t (first b o) = let f = before-yes e x t in next f (through f b)
  where
    through : {m : List Entry} → Before e x → AllBefore x m → AllBefore e m
    through f last = last
    through f (next g b) = next (before-then f g) (through f b)

kept-order : (l : List Entry) → well_kept l ≡ true → InOrder l
kept-order [] w = empty
kept-order (e ∷ l) w = let k = kept e l w in let o = kept-order l k.rest in first (all-before e l k.next o) o

pub in_order : (s : Store) → sound s ≡ true → InOrder (contents s)
in_order s t = kept-order (contents s) (sound-well s t)

-- and no identifier is there twice
id-absent : (d : ℕ) (l : List Entry) → has d l ≡ false → id_times d l ≡ 0
unfolding id_times pick
id-absent d [] t = refl
id-absent d (x ∷ l) t = let m = has_none d x l t in rw (ne_eqb x.id d m.0) (id-absent d l m.1)

empty-has : (d : ℕ) → has d [] ≡ true → false ≡ true
unfolding has among ids_of
empty-has d t = t

kept-once : (d : ℕ) (l : List Entry) → well_kept l ≡ true → has d l ≡ true → id_times d l ≡ 1
unfolding id_times pick
kept-once d [] w t = absurd (false≢true (empty-has d t))
kept-once d (x ∷ l) w t = let k = kept x l w in go (eqb x.id d) refl k (kept-once d l k.rest)
  where
    go : (b : Bool) → eqb x.id d ≡ b → Kept x l → (has d l ≡ true → id_times d l ≡ 1) → pick b (suc (id_times d l)) (id_times d l) ≡ 1
    go true q k i = ap suc (id-absent d l (subst (λ (c : ℕ). has c l ≡ false) (eqb-true x.id d q) k.alone))
    go false q k i = i (sym (has_on d x l (eqb-false x.id d q)) ∙ t)

pub once : (s : Store) (d : ℕ) → sound s ≡ true → has d (contents s) ≡ true → id_times d (contents s) ≡ 1
once s d t = kept-once d (contents s) (sound-well s t)
