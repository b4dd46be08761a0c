-- Every file has its pieces, and no others: joined they are the file, and the report is what is said of them. Assumes nothing.
use mathlib.Core.Path.{◌≡◌, refl, sym, ap, ◌∙◌, subst}
use mathlib.Core.Bool.{true}
use mathlib.Core.List.{List, [], ◌∷◌, ◌++◌, append_assoc}
use Prim.Native.Nat.{ℕ, zero, suc, ◌≤◌, ◌<◌}
use native.Mathlib.Omega.{arith}
use lib.ListN.{length, take, drop, length-drop, length-take, take-append-drop}
use Rattle.runs.specs.Steps.{Outcome, Way, report_on, Steady}
use Rattle.runs.specs.Steps.Outcome.{wait, took, over}
use Rattle.runs.specs.Pieces.{Piece, all_bytes, all_texts, Reading}
use Rattle.runs.specs.Pieces.Reading.{ends, piece}
use Rattle.runs.proofs.Reports.{report-took, report-over}

-- a reading, with all that it comes to
pub record Read {State : Type 0} (next : Way State) (st : State) (s : List ℕ) : Type 0 where
  pub pieces : List (Piece State)
  pub at : State
  pub left : List ℕ
  pub lastly : List ℕ
  pub reading : Reading next st s pieces at left lastly

-- every piece has a byte at least
pub data Filled {State : Type 0} : List (Piece State) → Type 0 where
  filled : Filled []
  and : {p : Piece State} {ps : List (Piece State)} → 0 < length p.bytes → Filled ps → Filled (p ∷ ps)

over-took : {State : Type 0} {text text' : List ℕ} {n : ℕ} {kept : State} → over text ≡ took n text' kept → ⊥
over-took e = let z : ◌≡◌ {A = ℕ} 0 1 = cc in omega arith

module _ {State : Type 0} {next : Way State} (steady : Steady next) where
  read_by : (f : ℕ) (st : State) (s : List ℕ) → length s < f → Read next st s
  read_by zero st s h = absurd (omega arith)
  read_by (suc f) st s h =
      by-outcome (next true s st) refl (λ n kept k. read_by f kept (drop n s) (omega (arith, length-drop n s)))
    where
      by-outcome : (o : Outcome State) → next true s st ≡ o → ((n : ℕ) (kept : State) → (0 < n) × (n ≤ length s) → Read next kept (drop n s)) → Read next st s
      by-outcome wait e go = absurd (steady.decides s st e)
      by-outcome (took n text kept) e go =
          let r = go n kept (steady.moves true s st e) in
          record { pieces = _; at = r.at; left = r.left; lastly = r.lastly; reading = piece e r.reading }
      by-outcome (over text) e go = record { pieces = []; at = st; left = s; lastly = text; reading = ends e }

  -- every file is read from every state
  pub is_read : (st : State) (s : List ℕ) → Read next st s
  is_read st s = read_by (suc (length s)) st s (omega arith)

  -- the report is what is said of the pieces, in order, and what it ends with
  pub each-once : {st at : State} {s left lastly : List ℕ} {ps : List (Piece State)} → Reading next st s ps at left lastly → report_on next st s ≡ all_texts ps ++ lastly
  each-once (ends {st} {s} e) = report-over next steady st s e
  each-once (piece {st} {s} {text} {lastly} {ps} e r) =
      report-took next steady st s e
      ∙ ap (λ (x : List ℕ). text ++ x) (each-once r)
      ∙ sym (append_assoc text (all_texts ps) lastly)

  -- the pieces, one behind the other, and what is not looked at, are the file
  pub all_there : {st at : State} {s left lastly : List ℕ} {ps : List (Piece State)} → Reading next st s ps at left lastly → s ≡ all_bytes ps ++ left
  all_there (ends e) = refl
  all_there (piece {s} {left} {n} {ps} e r) =
      sym (take-append-drop n s)
      ∙ ap (λ (x : List ℕ). take n s ++ x) (all_there r)
      ∙ sym (append_assoc (take n s) (all_bytes ps) left)

  -- none is empty
  pub none-empty : {st at : State} {s left lastly : List ℕ} {ps : List (Piece State)} → Reading next st s ps at left lastly → Filled ps
  none-empty (ends e) = filled
  none-empty (piece {st} {s} {n} e r) =
      let m = steady.moves true s st e in
      let h : 0 < length (take n s) = rw length-take (omega arith) in
      and h (none-empty r)

-- the pieces of a file by a first step that is known
record From {State : Type 0} (next : Way State) (s : List ℕ) (st : State) (n : ℕ) (text : List ℕ) (kept : State) (ps : List (Piece State)) (at : State) (left lastly : List ℕ) : Type 0 where
  others : List (Piece State)
  are : ps ≡ record { bytes = take n s; text = text; before = st; behind = kept } ∷ others
  rest : Reading next kept (drop n s) others at left lastly

module _ {State : Type 0} where
  same_over : {text text' : List ℕ} → ◌≡◌ {A = Outcome State} (over text) (over text') → text ≡ text'
  same_over e = cc

  same_bytes : {n n' : ℕ} {text text' : List ℕ} {kept kept' : State} → took n text kept ≡ took n' text' kept' → n ≡ n'
  same_bytes e = cc

  same_text : {n n' : ℕ} {text text' : List ℕ} {kept kept' : State} → took n text kept ≡ took n' text' kept' → text ≡ text'
  same_text e = cc

  same_kept : {n n' : ℕ} {text text' : List ℕ} {kept kept' : State} → took n text kept ≡ took n' text' kept' → kept ≡ kept'
  same_kept e = cc

module _ {State : Type 0} {next : Way State} where
  from : {st at kept : State} {s left lastly text : List ℕ} {n : ℕ} {ps : List (Piece State)} → Reading next st s ps at left lastly → next true s st ≡ took n text kept
      → From next s st n text kept ps at left lastly
  from (ends e) h = absurd (over-took (sym e ∙ h))
  from {at} {kept} {s} {left} {lastly} {n} (piece {kept = kept'} {n = n'} {ps = ps'} e r) h =
      let q = sym e ∙ h in
      record {
        others = ps';
        are = rw (same_bytes q, same_text q, same_kept q);
        rest = subst (λ (k : State). Reading next k (drop n s) ps' at left lastly) (same_kept q) (subst (λ (m : ℕ). Reading next kept' (drop m s) ps' at left lastly) (same_bytes q) r);
      }

  -- and a file has no other pieces
  pub no-others : {st at at' : State} {s left left' lastly lastly' : List ℕ} {ps ps' : List (Piece State)}
      → Reading next st s ps at left lastly → Reading next st s ps' at' left' lastly' → (ps ≡ ps') × (at ≡ at') × (left ≡ left') × (lastly ≡ lastly')
  no-others (ends e) (ends e') = (refl, refl, refl, same_over (sym e ∙ e'))
  no-others (ends e) (piece e' r') = absurd (over-took (sym e ∙ e'))
  no-others (piece {st} {kept} {s} {text} {n} e r) q =
      let f = from q e in
      let z = no-others r f.rest in
      (ap (λ (l : List (Piece State)). record { bytes = take n s; text = text; before = st; behind = kept } ∷ l) z.0 ∙ sym f.are, z.1, z.2, z.3)
