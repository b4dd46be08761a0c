-- Lines that are skipped or counted, and bytes that are characters. Assumes nothing.
use mathlib.Core.Path.{◌≡◌, refl, sym, ◌∙◌}
use mathlib.Core.Bool.{Bool, true, false}
use mathlib.Core.List.{List, [], ◌∷◌, ◌++◌}
use Prim.Native.Nat.{ℕ, zero, suc, ◌+◌, ◌-◌, ◌≤◌, ◌<◌}
use native.Mathlib.Omega.{arith}
use borrow.Author.Tests.{lt-ltb, le-ltb, ltb-true, ltb-false, le-leb, lt-leb, leb-true, leb-false, eqb-true, eqb-false}
use lib.Dec.{eqb, ltb, leb}
use lib.ListN.{length, take, length-append, length-take}
use lib.Seq.{take-append-le, take-append-add, drop-append-add, drop-append_seam}
use Rattle.chars.specs.Pick.{pick}
use Rattle.chars.specs.Table.{WellFormed, Begins, begins}
use Rattle.chars.specs.Utf8.{first, len_d, decode_at}
use Rattle.chars.specs.declared.Decoded.{Decoded}
use Rattle.chars.specs.declared.Decoded.TheVariants.{Char, Bad, End}
use Rattle.chars.proofs.Laws.{first-end, found}
use Rattle.chars.proofs.Table.{char-exact}
use Rattle.chars.proofs.Cases.{of_test, by-test}
use Rattle.csv_rows.specs.declared.Skipped.{Skipped}
use Rattle.csv_rows.specs.declared.Skipped.TheVariants.{Ended, On, Wait, Over}
use Rattle.csv_rows.specs.Reader.{equal}
use Rattle.csv_rows.specs.Answers.{window, feed_from, skipped}
use Rattle.csv_rows.specs.Bytes.{feeds, utf8_from, utf8_end, Encoded, no_bytes, a_char}
use Rattle.csv_rows.proofs.Utf8.{utf8-front, utf8-none}
use Rattle.csv_rows.proofs.Stable.{run-append, window-append, whole-window}

-- line feeds of two parts
pub feeds-append : (s t : List ℕ) → feeds (s ++ t) ≡ feeds s + feeds t
unfolding feeds
feeds-append [] t = omega arith
feeds-append (b ∷ s) t = let h = feeds-append s t in omega arith

-- what is skipped: the first line feed of the window
module _ (last : Bool) (s : List ℕ) where
  by-feed : feed_from 0 (window s) < length (window s) → skipped last s ≡ Ended (feed_from 0 (window s) + 1)
  unfolding skipped pick
  by-feed h = rw (lt-ltb (feed_from 0 (window s)) (length (window s)) h)

  by_window : length (window s) ≤ feed_from 0 (window s) → 65536 ≤ length s → skipped last s ≡ On
  unfolding skipped pick
  by_window h l = rw (le-ltb (feed_from 0 (window s)) (length (window s)) h, le-leb 65536 (length s) l)

  by_end : length (window s) ≤ feed_from 0 (window s) → length s < 65536 → skipped last s ≡ pick last (pick (eqb (length s) 0) Over (Ended (length s))) Wait
  unfolding skipped pick
  by_end h l = rw (le-ltb (feed_from 0 (window s)) (length (window s)) h, lt-leb 65536 (length s) l)

feed-append : (w u : List ℕ) → feed_from 0 w < length w → feed_from 0 (w ++ u) ≡ feed_from 0 w
feed-append w u h = rw (run-append (equal 10) w u (omega arith))

full-window : (s t : List ℕ) → 65536 ≤ length s → window (s ++ t) ≡ window s
unfolding window
full-window s t h = take-append-le 65536 s t h

-- an answer other than `Wait` stays the same, whatever follows
pub skip-stays : (s : List ℕ) → (skipped false s ≡ Wait → ⊥) → (last : Bool) (t : List ℕ) → skipped last (s ++ t) ≡ skipped false s
unfolding pick
skip-stays s n last t =
    of_test (ltb 65535 (length s))
    (λ q.
    let h = ltb-true 65535 (length s) q in
    let j = length-append s t in
    let w : window (s ++ t) ≡ window s = full-window s t (omega arith) in
    of_test (ltb (feed_from 0 (window s)) (length (window s)))
    (λ p. let l = ltb-true (feed_from 0 (window s)) (length (window s)) p in by-feed last (s ++ t) (rw w l) ∙ rw w (sym (by-feed false s l)))
    (λ p. let l = ltb-false (feed_from 0 (window s)) (length (window s)) p in by_window last (s ++ t) (rw w l) (omega arith) ∙ sym (by_window false s l (omega arith))))
    (λ q.
    let h = ltb-false 65535 (length s) q in
    let w : window s ≡ s = whole-window s (omega arith) in
    let v = window-append s t (omega arith) in
    let u = take (65536 - length s) t in
    let j = length-append s u in
    of_test (ltb (feed_from 0 (window s)) (length (window s)))
    (λ p.
    let l = ltb-true (feed_from 0 (window s)) (length (window s)) p in
    let l' : feed_from 0 s < length s = rw w at l in
    let f = feed-append s u l' in
    by-feed last (s ++ t) (rw v (omega (arith, f))) ∙ rw v (rw f (rw w at (sym (by-feed false s l)))))
    (λ p. absurd (n (by_end false s (ltb-false (feed_from 0 (window s)) (length (window s)) p) (omega arith)))))

-- every answer moves on and not past the block, and more is waited for only of a short block that is not the last
pub data Skips (last : Bool) (s : List ℕ) : Skipped → Type 0 where
  skips_to : {n : ℕ} → 0 < n → n ≤ length s → n ≤ 65536 → Skips last s (Ended n)
  skips_on : 65536 ≤ length s → Skips last s On
  skips_wait : last ≡ false → length s < 65536 → Skips last s Wait
  skips_over : last ≡ true → s ≡ [] → Skips last s Over

nil-of : (s : List ℕ) → length s ≡ 0 → s ≡ []
nil-of [] h = refl
nil-of (b ∷ s) h = absurd (omega arith)

window-short : (s : List ℕ) → (length (window s) ≤ length s) × (length (window s) ≤ 65536)
unfolding window
window-short s = let l = length-take 65536 s in (omega arith, omega arith)

some : (n : ℕ) → (n ≡ 0 → ⊥) → 0 < n
some n h = omega arith

pub skip-moves : (last : Bool) (s : List ℕ) → Skips last s (skipped last s)
unfolding skipped
skip-moves last s =
    let w = window-short s in
    let w0 = w.0 in
    let w1 = w.1 in
    by-test (Skips last s) (ltb (feed_from 0 (window s)) (length (window s)))
    (λ q. let l = ltb-true (feed_from 0 (window s)) (length (window s)) q in skips_to (omega arith) (omega arith) (omega arith))
    (λ q. by-test (Skips last s) (leb 65536 (length s))
    (λ p. skips_on (leb-true 65536 (length s) p))
    (λ p.
    let l = leb-false 65536 (length s) p in
    by-test (Skips last s) last
    (λ d. by-test (Skips last s) (eqb (length s) 0) (λ z. skips_over d (nil-of s (eqb-true (length s) 0 z))) (λ z. let y = eqb-false (length s) 0 z in skips_to (some (length s) y) (omega arith) (omega arith)))
    (λ d. skips_wait d l)))

-- characters at the front
module _ {s : List ℕ} {c : ℕ} (w : WellFormed s c) (t : List ℕ) where
  begins-so : first (s ++ t) ≡ Char c (length s)
  unfolding decode_at
  begins-so = (char-exact (s ++ t) 0 c (length s)).1 (begins t w)

  begins-long : (0 < length s) × (length s ≤ length (s ++ t))
  unfolding decode_at
  begins-long = let f = found (s ++ t) 0 begins-so in (f.some, omega (arith, length-append s t))

  char-first : utf8_end (s ++ t) ≡ length s + utf8_end t
  unfolding len_d
  char-first =
      let l = begins-long in
      utf8-front (s ++ t) (length s) l.0 l.1 (rw begins-so) ∙ rw (drop-append_seam s t)

-- well-formed sequences are so to their end
pub utf8-good : {s : List ℕ} → Encoded s → utf8_end s ≡ length s
unfolding utf8_end utf8_from
utf8-good no_bytes = refl
utf8-good (a_char {s} {t} w e) = let l = length-append s t in let i = utf8-good e in char-first w t ∙ omega arith

-- what stands before the place is well-formed, and what stands there is not
pub record Utf8Front (s : List ℕ) : Type 0 where
  pub good : Encoded (take (utf8_end s) s)
  pub ill : utf8_end s < length s → decode_at s (utf8_end s) ≡ Bad

by-begins : {t : List ℕ} {c n : ℕ} → Begins t c n → ((v : List ℕ) → length v < length t → Utf8Front v) → Utf8Front t
unfolding decode_at
by-begins (begins {s} t w) again =
    let l = begins-long w t in
    let l0 = l.0 in
    let a = length-append s t in
    let e = char-first w t in
    let i = again t (omega arith) in
    record {
      good = rw (e, take-append-add s t (utf8_end t)) (a_char w i.good);
      ill = λ h. rw (e, drop-append-add s t (utf8_end t)) (i.ill (omega (arith, rw e at h)));
    }

none-there : (t : List ℕ) → first t ≡ Bad → Utf8Front t
unfolding decode_at len_d
none-there t h = let e = utf8-none t (rw h) in record { good = rw e no_bytes; ill = λ _. rw (e, h) }

nothing-there : Utf8Front []
unfolding utf8_end utf8_from
nothing-there = record { good = no_bytes; ill = λ h. absurd (omega arith) }

by_first : (t : List ℕ) (d : Decoded) → first t ≡ d → ((v : List ℕ) → length v < length t → Utf8Front v) → Utf8Front t
unfolding decode_at
by_first t (Char c n) h again = by-begins ((char-exact t 0 c n).0 h) again
by_first t Bad h again = none-there t h
by_first t End h again = rw (first-end t h) nothing-there

front-upto : (m : ℕ) (t : List ℕ) → length t ≤ m → Utf8Front t
front-upto zero t h = by_first t (first t) refl (λ v l. absurd (omega arith))
front-upto (suc m) t h = by_first t (first t) refl (λ v l. front-upto m v (omega arith))

pub utf8-exact : (s : List ℕ) → Utf8Front s
utf8-exact s = front-upto (length s) s (omega arith)
