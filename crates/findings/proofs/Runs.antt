-- Texts that are gone through one behind the other, and a text that is measured and then stored. Assumes nothing.
use mathlib.Core.Path.{◌≡◌, refl, sym, ap, ◌∙◌, subst}
use mathlib.Core.Bool.{false}
use mathlib.Core.List.{List, [], ◌++◌}
use Prim.Native.Nat.{ℕ, ◌+◌, ◌≤◌, ◌<◌}
use native.Mathlib.Nat.{add-zero, zero-add}
use native.Mathlib.Omega.{arith}
use native.Mathlib.Decide.{dec_le}
use lib.ListN.{length, length-append}
use lib.Seq.{sets, length-sets}
use borrow.Author.Tests.{lt-leb}
use Rattle.chars.specs.Pick.{pick}
use Rattle.refusals.specs.Offset.{top}
use Rattle.refusals.specs.declared.Refusal.{Refusal}
use Rattle.std.specs.Prelude.{Result, Ok, Err}
use Rattle.puts.specs.Numbers.{digits, width, decimal}
use Rattle.puts.specs.Answers.{decided, answer, afterwards, Tried}
use Rattle.puts.proofs.Counts.{length-decimal}
use Rattle.puts.proofs.Puts.{sets-append}
use Rattle.puts.proofs.Answered.{has-length, fits, done, refuses}
use Rattle.findings.specs.Runs.{Moved, Ran}

-- nothing
pub nothing : (l : List ℕ) (i : ℕ) → Ran [] l i l i
nothing l i =
    record { moved = record { within = λ _. sym (add-zero i); beyond = λ h. omega arith }; bytes = λ _ _. refl; kept = refl }

-- a text that is known by another name
pub ran-as : {t u before after : List ℕ} {at next : ℕ} → Ran u before at after next → t ≡ u → Ran t before at after next
ran-as {before} {after} {at} {next} p e = subst (λ (x : List ℕ). Ran x before at after next) (sym e) p

-- one place behind the other
moved-both : {m n i j k : ℕ} → Moved m i j → Moved n j k → Moved (m + n) i k
moved-both {m} {n} {i} {j} {k} p q =
    record {
      within = λ h. let a : j ≡ i + m = p.within (omega arith) in let b : k ≡ j + n = q.within (omega arith) in omega arith;
      beyond = λ h.
          elim (dec_le (i + m) top) [
            | yes g ↦ let a : j ≡ i + m = p.within g in let b : top ≤ k = q.beyond (omega arith) in b
            | no g ↦
                let a : top ≤ j = p.beyond (omega arith) in
                elim (dec_le (j + n) top) [
                  | yes f ↦ let b : k ≡ j + n = q.within f in omega arith
                  | no f ↦ q.beyond (omega arith)
                ]
          ];
    }

-- one text behind the other
pub both : {a b l m p : List ℕ} {i j k : ℕ} → Ran a l i m j → Ran b m j p k → Ran (a ++ b) l i p k
both {a} {b} {l} {m} {p} {i} {j} {k} first second =
    let n = length-append a b in
    record {
      moved = subst (λ (x : ℕ). Moved x i k) (sym n) (moved-both first.moved second.moved);
      bytes = λ t h.
          let e : j ≡ i + length a = first.moved.within (omega arith) in
          let f : m ≡ sets l i a = first.bytes t (omega arith) in
          second.bytes (omega (arith, first.kept)) (omega (arith, first.kept)) ∙ rw (f, e) (sym (sets-append l i a b));
      kept = second.kept ∙ first.kept;
    }

-- what is tried, and the place that is counted beside it
pub tried : {t l m : List ℕ} {i j k : ℕ} → Tried t l i m j → Moved (length t) i k → Ran t l i m k
tried {t} {l} {m} {i} {j} {k} p q =
    record {
      moved = q;
      bytes = λ _ h. (p.put h).bytes;
      kept = elim (dec_le (i + length t) (length l)) [
        | yes h ↦ ap length (p.put h).bytes ∙ length-sets l i t
        | no h ↦ ap length (p.not_put (omega arith)).0
      ];
    }

-- the digits of a number, whose width was found first
pub tried-digits : (least n : ℕ) {w : ℕ} {l m : List ℕ} {i j k : ℕ} → w ≡ width least n → Tried (digits w n) l i m j → Moved w i k → Ran (decimal least n) l i m k
unfolding decimal
tried-digits least n {w} {l} {m} {i} {j} {k} e p q =
    tried (subst (λ (x : ℕ). Tried (digits x n) l i m j) e p) (subst (λ (x : ℕ). Moved x i k) (e ∙ sym (length-decimal least n)) q)

-- a text t was measured over another buffer, and n bytes were counted; l is the lent buffer, which has fewer bytes than the largest number
module _ {t d e : List ℕ} {n : ℕ} (first : Ran t d 0 e n) (l : List ℕ) (small : length l < top) where
  by_count : decided (Ok n) (length l) ≡ decided (Ok (length t)) (length l)
  unfolding decided pick
  by_count =
      elim (dec_le (length t) top) [
        | yes h ↦ let c : n ≡ length t = first.moved.within (omega arith) ∙ zero-add (length t) in rw c
        | no h ↦
            let c : top ≤ n = first.moved.beyond (omega arith) in
            rw (lt-leb n (length l) (omega arith), lt-leb (length t) (length l) (omega arith))
      ]

  module _ {w : Result ℕ Refusal} (ew : w ≡ decided (Ok n) (length l)) where
    -- there is room, and it was stored
    pub stored : {m : ℕ} → w ≡ Ok m → {out : List ℕ} {k : ℕ} → Ran t l 0 out k → (Ok k ≡ answer false t (length l)) × (out ≡ afterwards false t l)
    stored ed second =
        let f = fits false t l (has-length t refl refl) (ew ∙ by_count) ed in
        done false t l (has-length t refl refl) (ew ∙ by_count) ed
        (record { behind = second.moved.within (omega arith); bytes = second.bytes (omega arith) (omega arith) })

    -- there is none
    pub refused : {e : Refusal} → w ≡ Err e → (Err e ≡ answer false t (length l)) × (l ≡ afterwards false t l)
    refused er = refuses false t l (has-length t refl refl) (ew ∙ by_count) er
