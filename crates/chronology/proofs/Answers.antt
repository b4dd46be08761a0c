-- What the calls answer, one law for each way out, and what an accepted call says. Assumes nothing.
use mathlib.Core.Path.{◌≡◌, refl, sym, ap, ◌∙◌}
use mathlib.Core.Bool.{Bool, true, false, false≢true}
use mathlib.Core.List.{List}
use Prim.Native.Nat.{ℕ, ◌+◌, ◌-◌, ◌*◌, ◌≤◌, ◌<◌}
use native.Mathlib.Omega.{arith}
use lib.Dec.{eqb, leb, ltb}
use lib.IntN.{ℤ}
use lib.ListN.{length, take}
use lib.Seq.{sets, length-take-le}
use borrow.Author.Tests.{lt-ltb, le-ltb, le-leb, lt-leb, leb-true, eq-eqb, ne_eqb, eqb-false}
use Rattle.chars.specs.Pick.{pick}
use Rattle.refusals.specs.declared.Refusal.{Refusal}
use Rattle.refusals.specs.declared.Kind.TheVariants.{NoRoom, BadPeriod, DuplicateEntry, ChronologyFull, UnknownEntry, BadChronology}
use Rattle.days.specs.declared.Period.{Period}
use Rattle.chronology.specs.declared.Entry.{Entry}
use Rattle.std.specs.Prelude.{Result, Ok, Err}
use Rattle.chronology.specs.Entries.{good_period, entry_of, ids_of, among, has, well_kept, listed}
use Rattle.chronology.specs.Store.{Store, store, Wide, contents, sound, index_of, rank, inserted, removed}
use Rattle.chronology.specs.Calls.{refused, accepted, count_answer, add_answer, remove_answer, list_answer, with_entry, without_at, after_add, after_remove, after_list}
use Rattle.chronology.proofs.Tests.{both}
use Rattle.chronology.proofs.Columns.{Room, room, contents-ids, below-test, Place, place, in_it, past_it, listed-front}

-- a chronology
pub sound-above : (s : Store) → 512 < s.count → false ≡ sound s
unfolding sound pick
sound-above s h = rw (lt-leb s.count 512 h)

pub sound-kept : (s : Store) → s.count ≤ 512 → well_kept (contents s) ≡ sound s
unfolding sound pick
sound-kept s h = rw (le-leb s.count 512 h)

pub sound-few : (s : Store) → sound s ≡ true → s.count ≤ 512
unfolding sound
sound-few s t = leb-true s.count 512 (both (leb s.count 512) _ t).0

pub sound-well : (s : Store) → sound s ≡ true → well_kept (contents s) ≡ true
unfolding sound
sound-well s t = (both (leb s.count 512) _ t).1

pub sound-room : (s : Store) → Wide s → sound s ≡ true → Room s
sound-room s w t = room s w (sound-few s t)

-- a search of all identifiers
search-test : (s : Store) (d k : ℕ) → Room s → k ≡ 0 + index_of d (take s.count s.ids) → ltb k s.count ≡ has d (contents s)
unfolding has
search-test s d k r e =
    let l = take s.count s.ids in
    let h : 0 + length l ≡ s.count = rw (length-take-le s.count s.ids (omega arith)) (omega arith) in
    ap (λ (j : ℕ). ltb j s.count) e ∙ below-test d l 0 s.count h ∙ ap (among d) (sym (contents-ids s r))

pub has-it : (s : Store) (d k : ℕ) → Room s → k ≡ 0 + index_of d (take s.count s.ids) → k < s.count → has d (contents s) ≡ true
has-it s d k r e h = sym (search-test s d k r e) ∙ lt-ltb k s.count h

pub has-not : (s : Store) (d k : ℕ) → Room s → k ≡ 0 + index_of d (take s.count s.ids) → s.count ≤ k → has d (contents s) ≡ false
has-not s d k r e h = sym (search-test s d k r e) ∙ le-ltb k s.count h

-- the place of an identifier that is there
pub place-below : (s : Store) (d : ℕ) → Room s → has d (contents s) ≡ true → index_of d (ids_of (contents s)) < s.count
unfolding has
place-below s d r t = go (place d (ids_of (contents s)))
  where
    go : Place d (ids_of (contents s)) → index_of d (ids_of (contents s)) < s.count
    go (in_it a h) =
        let e : length (ids_of (contents s)) ≡ s.count = ap length (contents-ids s r) ∙ length-take-le s.count s.ids (omega arith) in
        omega arith
    go (past_it a h) = absurd (false≢true (sym a ∙ t))

pub place_found : (s : Store) (d : ℕ) {k : ℕ} → Room s → has d (contents s) ≡ true → k ≡ 0 + index_of d (take s.count s.ids) → k < s.count
place_found s d {k} r t e = let h = place-below s d r t in let q = ap (index_of d) (contents-ids s r) in omega arith

-- a refusal is no count
apart : {m : ℕ} {e : Refusal} → Err e ≡ Ok m → ⊥
unfolding accepted
apart q = false≢true (ap accepted q)

-- the count
pub count-bad : (s : Store) → sound s ≡ false → refused BadChronology ≡ count_answer s
unfolding count_answer pick
count-bad s t = rw t

pub count-done : (s : Store) → sound s ≡ true → Ok s.count ≡ count_answer s
unfolding count_answer pick
count-done s t = rw t

-- an add
module _ (s : Store) (p : Period) (d : ℕ) where
  pub add-bad : sound s ≡ false → refused BadChronology ≡ add_answer s p d
  unfolding add_answer pick
  add-bad t = rw t

  pub add-period : sound s ≡ true → good_period p ≡ false → refused BadPeriod ≡ add_answer s p d
  unfolding add_answer pick
  add-period t u = rw (t, u)

  pub add_twice : sound s ≡ true → good_period p ≡ true → has d (contents s) ≡ true → refused DuplicateEntry ≡ add_answer s p d
  unfolding add_answer pick
  add_twice t u v = rw (t, u, v)

  pub add-full : sound s ≡ true → good_period p ≡ true → has d (contents s) ≡ false → s.count ≡ 512 → refused ChronologyFull ≡ add_answer s p d
  unfolding add_answer pick
  add-full t u v w = rw (t, u, v, eq-eqb s.count 512 w)

  pub add_done : sound s ≡ true → good_period p ≡ true → has d (contents s) ≡ false → (s.count ≡ 512 → ⊥) → Ok (s.count + 1) ≡ add_answer s p d
  unfolding add_answer pick
  add_done t u v w = rw (t, u, v, ne_eqb s.count 512 w)

-- what an accepted add says
pub record Added (s : Store) (p : Period) (d m : ℕ) : Type 0 where
  pub was_sound : sound s ≡ true
  pub period_good : good_period p ≡ true
  pub id_new : has d (contents s) ≡ false
  pub not_full : s.count < 512
  pub one_more : s.count + 1 ≡ m

-- how many an answer says, or else n
many : ℕ → Result ℕ Refusal → ℕ
many n (Ok m) = m
many n (Err e) = n

entries-same : {m n : ℕ} → ◌≡◌ {A = Result ℕ Refusal} (Ok m) (Ok n) → m ≡ n
unfolding many
entries-same {m} q = ap (λ (a : Result ℕ Refusal). many m a) q

pub add-says : (s : Store) (p : Period) (d m : ℕ) → add_answer s p d ≡ Ok m → Added s p d m
unfolding add_answer refused pick
add-says s p d m q = first (sound s) refl q
  where
    last : (t : Bool) → sound s ≡ true → good_period p ≡ true → has d (contents s) ≡ false → eqb s.count 512 ≡ t → pick t (refused ChronologyFull) (Ok (s.count + 1)) ≡ Ok m → Added s p d m
    last true a b c e z = absurd (apart z)
    last false a b c e z =
        let n : s.count ≡ 512 → ⊥ = eqb-false s.count 512 e in
        record { was_sound = a; period_good = b; id_new = c; not_full = omega (arith, sound-few s a, n); one_more = entries-same z }

    third : (t : Bool) → sound s ≡ true → good_period p ≡ true → has d (contents s) ≡ t → pick t (refused DuplicateEntry) (pick (eqb s.count 512) (refused ChronologyFull) (Ok (s.count + 1))) ≡ Ok m → Added s p d m
    third true a b e z = absurd (apart z)
    third false a b e z = last (eqb s.count 512) a b e refl z

    second : (t : Bool) → sound s ≡ true → good_period p ≡ t → pick t (pick (has d (contents s)) (refused DuplicateEntry) (pick (eqb s.count 512) (refused ChronologyFull) (Ok (s.count + 1)))) (refused BadPeriod) ≡ Ok m → Added s p d m
    second true a e z = third (has d (contents s)) a e refl z
    second false a e z = absurd (apart z)

    first : (t : Bool) → sound s ≡ t → pick t (pick (good_period p) (pick (has d (contents s)) (refused DuplicateEntry) (pick (eqb s.count 512) (refused ChronologyFull) (Ok (s.count + 1)))) (refused BadPeriod)) (refused BadChronology) ≡ Ok m → Added s p d m
    first true e z = second (good_period p) e refl z
    first false e z = absurd (apart z)

-- the store after an add
pub add-leaves : (s : Store) (p : Period) (d : ℕ) {m i : ℕ} {e : Entry} {fs ls : List ℤ} {ds : List ℕ} → add_answer s p d ≡ Ok m → e ≡ entry_of p d → i ≡ rank e (contents s)
    → fs ≡ inserted s.firsts s.count i e.first → ls ≡ inserted s.lasts s.count i e.last → ds ≡ inserted s.ids s.count i e.id
    → store m fs ls ds ≡ after_add s p d
unfolding after_add with_entry accepted pick
add-leaves s p d {m} {i} {e} {fs} {ls} {ds} q a b f g h =
    let n = s.count in
    let w = add-says s p d m q in
    let t : accepted (add_answer s p d) ≡ true = ap accepted q in
    let k : i ≡ rank (entry_of p d) (contents s) = b ∙ ap (λ (x : Entry). rank x (contents s)) a in
    let u = f ∙ ap (λ (x : Entry). inserted s.firsts n i x.first) a in
    let v = g ∙ ap (λ (x : Entry). inserted s.lasts n i x.last) a in
    let x = h ∙ ap (λ (x : Entry). inserted s.ids n i x.id) a in
    rw (t, ← k, u, v, x, w.one_more)

pub add-keeps : (s : Store) (p : Period) (d : ℕ) {x : Refusal} → add_answer s p d ≡ Err x → s ≡ after_add s p d
unfolding after_add accepted pick
add-keeps s p d q = let t : accepted (add_answer s p d) ≡ false = ap accepted q in rw t

-- a removal
module _ (s : Store) (d : ℕ) where
  pub remove-bad : sound s ≡ false → refused BadChronology ≡ remove_answer s d
  unfolding remove_answer pick
  remove-bad t = rw t

  pub remove-unknown : sound s ≡ true → has d (contents s) ≡ false → refused UnknownEntry ≡ remove_answer s d
  unfolding remove_answer pick
  remove-unknown t u = rw (t, u)

  pub remove-done : sound s ≡ true → has d (contents s) ≡ true → Ok (s.count - 1) ≡ remove_answer s d
  unfolding remove_answer pick
  remove-done t u = rw (t, u)

-- what an accepted removal says
pub record Taken (s : Store) (d m : ℕ) : Type 0 where
  pub was_sound : sound s ≡ true
  pub id_there : has d (contents s) ≡ true
  pub one_less : s.count - 1 ≡ m

pub remove-says : (s : Store) (d m : ℕ) → remove_answer s d ≡ Ok m → Taken s d m
unfolding remove_answer refused pick
remove-says s d m q = first (sound s) refl q
  where
    second : (t : Bool) → sound s ≡ true → has d (contents s) ≡ t → pick t (Ok (s.count - 1)) (refused UnknownEntry) ≡ Ok m → Taken s d m
    second true a e z = record { was_sound = a; id_there = e; one_less = entries-same z }
    second false a e z = absurd (apart z)

    first : (t : Bool) → sound s ≡ t → pick t (pick (has d (contents s)) (Ok (s.count - 1)) (refused UnknownEntry)) (refused BadChronology) ≡ Ok m → Taken s d m
    first true e z = second (has d (contents s)) e refl z
    first false e z = absurd (apart z)

-- the store after a removal
pub remove-leaves : (s : Store) (d : ℕ) {m i : ℕ} {fs ls : List ℤ} {ds : List ℕ} → Wide s → remove_answer s d ≡ Ok m → i ≡ 0 + index_of d (take s.count s.ids)
    → fs ≡ removed s.firsts s.count i → ls ≡ removed s.lasts s.count i → ds ≡ removed s.ids s.count i → store m fs ls ds ≡ after_remove s d
unfolding after_remove without_at accepted pick
remove-leaves s d {m} {i} {fs} {ls} {ds} x q b f g h =
    let w = remove-says s d m q in
    let t : accepted (remove_answer s d) ≡ true = ap accepted q in
    let k : i ≡ index_of d (ids_of (contents s)) = b ∙ (let z : 0 + index_of d (take s.count s.ids) ≡ index_of d (take s.count s.ids) = omega arith in z) ∙ ap (index_of d) (sym (contents-ids s (sound-room s x w.was_sound))) in
    rw (t, ← k, f, g, h, w.one_less)

pub remove-keeps : (s : Store) (d : ℕ) {x : Refusal} → remove_answer s d ≡ Err x → s ≡ after_remove s d
unfolding after_remove accepted pick
remove-keeps s d q = let t : accepted (remove_answer s d) ≡ false = ap accepted q in rw t

-- a listing
module _ (s : Store) (k : ℕ) where
  pub list-bad : sound s ≡ false → refused BadChronology ≡ list_answer s k
  unfolding list_answer pick
  list-bad t = rw t

  pub list-narrow : sound s ≡ true → k < 3 * s.count → refused NoRoom ≡ list_answer s k
  unfolding list_answer pick
  list-narrow t u = rw (t, lt-leb (3 * s.count) k u)

  pub list_done : sound s ≡ true → 3 * s.count ≤ k → Ok s.count ≡ list_answer s k
  unfolding list_answer pick
  list_done t u = rw (t, le-leb (3 * s.count) k u)

-- what an accepted listing says
pub list-says : (s : Store) (k m : ℕ) → list_answer s k ≡ Ok m → (sound s ≡ true) × (3 * s.count ≤ k)
unfolding list_answer refused pick
list-says s k m q = first (sound s) refl q
  where
    second : (t : Bool) → sound s ≡ true → leb (3 * s.count) k ≡ t → pick t (Ok s.count) (refused NoRoom) ≡ Ok m → (sound s ≡ true) × (3 * s.count ≤ k)
    second true a e z = (a, leb-true (3 * s.count) k e)
    second false a e z = absurd (apart z)

    first : (t : Bool) → sound s ≡ t → pick t (pick (leb (3 * s.count) k) (Ok s.count) (refused NoRoom)) (refused BadChronology) ≡ Ok m → (sound s ≡ true) × (3 * s.count ≤ k)
    first true e z = second (leb (3 * s.count) k) e refl z
    first false e z = absurd (apart z)

-- the lent numbers after a listing
pub list-leaves : (s : Store) (out : List ℤ) {m : ℕ} {after : List ℤ} → Wide s → list_answer s (length out) ≡ Ok m → after ≡ sets out 0 (listed (contents s)) → after ≡ after_list s out
unfolding after_list accepted pick
list-leaves s out {m} {after} x q e =
    let w = list-says s (length out) m q in
    let t : accepted (list_answer s (length out)) ≡ true = ap accepted q in
    rw t (e ∙ listed-front s (sound-room s x w.0) out w.1)

pub list-keeps : (s : Store) (out : List ℤ) {x : Refusal} → list_answer s (length out) ≡ Err x → out ≡ after_list s out
unfolding after_list accepted pick
list-keeps s out q = let t : accepted (list_answer s (length out)) ≡ false = ap accepted q in rw t
