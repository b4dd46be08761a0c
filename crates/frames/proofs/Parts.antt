-- What was put into a buffer, as the parts of it that are lent on. Assumes nothing.
use mathlib.Core.Path.{◌≡◌, refl, sym, ap, ◌∙◌}
use mathlib.Core.Bool.{Bool, true, false, ◌&&◌, false≢true}
use mathlib.Core.List.{List, ◌++◌, append_assoc, append-nil}
use Prim.Native.Nat.{ℕ, ◌+◌, ◌-◌, ◌*◌, ◌%◌, ◌≤◌, ◌<◌}
use native.Mathlib.Omega.{arith}
use borrow.Author.Tests.{eqb-true, leb-true, le-leb, lt-leb}
use lib.Dec.{eqb, leb}
use lib.ListN.{length, take, drop, length-append}
use lib.Seq.{take_at, drop_at}
use Rattle.chars.specs.Pick.{pick}
use Rattle.chars.proofs.Cases.{by-test, of_test}
use Rattle.dates.specs.declared.Date.{Date}
use Rattle.refusals.specs.declared.Refusal.{Refusal}
use Rattle.std.specs.Prelude.{Option, Some, None, Result}
use Rattle.hexes.specs.Hex.{is_hex, bytes_of, half, decoded, decoded_into}
use Rattle.hexes.proofs.Laws.{length-bytes}
use Rattle.puts.specs.Answers.{Put}
use Rattle.puts.proofs.Puts.{kept, both, at_front}
use Rattle.chunks.specs.Lent.{lent, optional, three}
use Rattle.reading_laws.specs.Fields.{three_fields}
use Rattle.answers.specs.Answer.{answer_line}
use Rattle.frames.specs.declared.Operation.{Operation}
use Rattle.frames.specs.declared.Operation.TheVariants.{Ported, Strict, LevelOne, ThreeFields, Unknown}
use Rattle.frames.specs.Lists.{byte_at, end_of, row_at, table_of, text_of, list_end, list_table, list_text, is_flag, has_list, optional_end, optional_table, optional_text}
use Rattle.frames.specs.Room.{Room, operation_of, reads_list, read_by, list_by, read_lists, is_single, text_start, row_length, Threefold}
use Rattle.frames.specs.Frame.{one_fills, three_fill, month_at, day_at, asked, formed, read_of, bad_frame, frame_read, line_by, frame_answer, line_answer}
use Rattle.frames.proofs.Places.{end-above, length-row, text_behind, table-behind}

-- a text at a place of a buffer with room for it
module _ {t l l' : List ℕ} {m j : ℕ} (p : Put t l m l' j) (room : m + length t ≤ length l) where
  pub within : j ≤ length l'
  within = let k = kept p in omega (arith, p.behind)

-- one text at the front
pub first-is : {t l l' : List ℕ} {j : ℕ} → Put t l 0 l' j → length t ≤ length l → take j l' ≡ t
first-is {t} {l} {j} p h = let e : length t ≡ j = omega (arith, p.behind) in rw (at_front h p) (take_at t (drop (length t) l) j e)

-- three texts, one behind the other
module _ {a b c l l₁ l₂ l₃ : List ℕ} {i j k : ℕ} (p : Put a l 0 l₁ i) (q : Put b l₁ i l₂ j) (r : Put c l₂ j l₃ k) (room : k ≤ length l) where
  length-is : length ((a ++ b) ++ c) ≡ k
  length-is = let e = (both (both p q) r).behind in omega arith

  abbrev rest : List ℕ
  rest = drop (length ((a ++ b) ++ c)) l

  whole : l₃ ≡ (a ++ b) ++ (c ++ rest)
  whole = at_front (let e = length-is in omega arith) (both (both p q) r) ∙ append_assoc (a ++ b) c rest

  pub still : length l₃ ≡ length l
  still = kept r ∙ kept q ∙ kept p

  pub in_order : (i ≤ j) × (j ≤ k)
  in_order = (omega (arith, q.behind), omega (arith, r.behind))

  pub part-1 : take i l₃ ≡ a
  part-1 = let e : length a ≡ i = omega (arith, p.behind) in rw whole (ap (take i) (append_assoc a b (c ++ rest)) ∙ take_at a (b ++ (c ++ rest)) i e)

  pub part-2 : take (j - i) (drop i l₃) ≡ b
  part-2 =
      let e : length a ≡ i = omega (arith, p.behind) in
      let g : length b ≡ j - i = omega (arith, q.behind) in
      rw whole (ap (λ (x : List ℕ). take (j - i) (drop i x)) (append_assoc a b (c ++ rest)) ∙ ap (take (j - i)) (drop_at a (b ++ (c ++ rest)) i e) ∙ take_at b (c ++ rest) (j - i) g)

  pub part-3 : take (k - j) (drop j l₃) ≡ c
  part-3 =
      let n = length-append a b in
      let e : length (a ++ b) ≡ j = omega (arith, p.behind, q.behind) in
      let g : length c ≡ k - j = omega (arith, r.behind) in
      rw whole (ap (take (k - j)) (drop_at (a ++ b) (c ++ rest) j e) ∙ take_at c rest (k - j) g)

-- one list that fills a frame
module _ {f text table : List ℕ} (w : Room f text table) (fills : one_fills f ≡ true) where
  ends : list_end f 1 ≡ length f
  ends = eqb-true (list_end f 1) (length f) fills

  pub asks : Room f text table × (list_end f 1 ≤ length f) × (0 ≤ 1) × (2 * 0 ≤ 1)
  asks = (w, omega (arith, ends), omega arith, omega arith)

  text-room : length (list_text f 1) ≤ length text
  text-room = let h = text_behind w 1 0 0 (omega (arith, ends)) (omega arith) (omega arith) in omega (arith, w.for_text, ends)

  table-room : length (list_table f 1) ≤ length table
  table-room = let h = table-behind w 1 0 0 (omega (arith, ends)) (omega arith) (omega arith) in omega (arith, w.for_table, ends)

  pub text_in : {text' : List ℕ} {j : ℕ} → Put (list_text f 1) text 0 text' j → j ≤ length text'
  text_in p = within p (omega (arith, text-room))

  pub table-in : {table' : List ℕ} {j : ℕ} → Put (list_table f 1) table 0 table' j → j ≤ length table'
  table-in p = within p (omega (arith, table-room))

  pub text_is : {text' : List ℕ} {j : ℕ} → Put (list_text f 1) text 0 text' j → take j text' ≡ list_text f 1
  text_is p = first-is p text-room

  pub table_is : {table' : List ℕ} {j : ℕ} → Put (list_table f 1) table 0 table' j → take j table' ≡ list_table f 1
  table_is p = first-is p table-room

-- a list of one chunk stands in a frame as it is
pub record OneChunk (f : List ℕ) (at e : ℕ) : Type 0 where
  pub long : at + 11 ≤ e
  pub text_there : take (e - (at + 11)) (drop (at + 11) f) ≡ list_text f at
  pub row_there : row_at f (at + 1) ≡ list_table f at

pub one_chunk : (f : List ℕ) (at e : ℕ) → byte_at f at ≡ 1 → e ≡ list_end f at → OneChunk f at e
unfolding end_of text_of table_of
one_chunk f at e one ee =
    let n = byte_at f (at + 1 + 1) in
    let ends : e ≡ at + 1 + 10 + n = rw one at ee in
    let k : e - (at + 11) ≡ n = omega (arith, ends) in
    let b : at + 11 ≡ at + 1 + 10 = omega arith in
    record {
      long = omega (arith, ends);
      text_there = rw (one, k, b) (sym (append-nil (take n (drop (at + 1 + 10) f))));
      row_there = rw one (sym (append-nil (row_at f (at + 1))));
    }

-- one that fills a frame
pub single : (f : List ℕ) {n : ℕ} → one_fills f ≡ true → n ≡ byte_at f 1 → n ≡ 1 → OneChunk f 1 (length f)
single f fills en e1 = one_chunk f 1 (length f) (sym en ∙ e1) (sym (eqb-true (list_end f 1) (length f) fills))

-- one that may be absent
pub record MaybeChunk (f : List ℕ) (at e : ℕ) : Type 0 where
  pub starts : text_start (has_list f at) at ≤ e
  pub in_row : row_length (has_list f at) ≤ 4
  pub text_is_there : take (e - text_start (has_list f at) at) (drop (text_start (has_list f at) at) f) ≡ optional_text f at
  pub row_is_there : take (row_length (has_list f at)) (row_at f (at + 2)) ≡ optional_table f at

pub maybe-chunk : (f : List ℕ) (at e : ℕ) → is_single f at ≡ true → e ≡ optional_end f at → MaybeChunk f at e
unfolding is_single text_start row_length optional_end optional_text optional_table row_at pick
maybe-chunk f at e s ee = by-presence (has_list f at) refl
  where
    there : has_list f at ≡ true → MaybeChunk f at e
    there h =
        let one = eqb-true (byte_at f (at + 1)) 1 (rw h at s) in
        let o = one_chunk f (at + 1) e one (rw h at ee) in
        let b : at + 12 ≡ at + 1 + 11 = omega arith in
        let k : at + 2 ≡ at + 1 + 1 = omega arith in
        record {
          starts = rw h (omega (arith, o.long));
          in_row = rw h (omega arith);
          text_is_there = rw (h, b) o.text_there;
          row_is_there = rw (h, k) o.row_there;
        }

    absent : has_list f at ≡ false → MaybeChunk f at e
    absent h =
        let g : e ≡ at + 1 = rw h at ee in
        let k : e - (at + 1) ≡ 0 = omega (arith, g) in
        record {
          starts = rw h (omega (arith, g));
          in_row = rw h (omega arith);
          text_is_there = rw (h, k) refl;
          row_is_there = rw h refl;
        }

    by-presence : (b : Bool) → has_list f at ≡ b → MaybeChunk f at e
    by-presence true h = there h
    by-presence false h = absent h

-- three lists that fill a frame
and_both : (a b : Bool) → a && b ≡ true → (a ≡ true) × (b ≡ true)
and_both true b e = (refl, e)
and_both false b e = absurd (false≢true e)

pub optional-above : (f : List ℕ) (at : ℕ) → at < optional_end f at
unfolding optional_end
optional-above f at =
    by-test (λ (n : ℕ). at < n) (has_list f at) (λ _. let a = end-above f (at + 1 + 1) (byte_at f (at + 1)) in omega arith) (λ _. omega arith)

pub same-room : {f b t b' t' : List ℕ} → Room f b t → length b' ≡ length b → length t' ≡ length t → Room f b' t'
same-room w e g = record { small = w.small; for_text = omega (arith, w.for_text, e); for_table = omega (arith, w.for_table, g) }

module _ (f : List ℕ) (fills : three_fill f ≡ true) {ma da : ℕ} (em : ma ≡ month_at f) (ed : da ≡ optional_end f ma) where
  pub all-filled : optional_end f da ≡ length f
  unfolding three_fill
  all-filled =
      rw (ed, em)
      (eqb-true (optional_end f (day_at f)) (length f) (and_both (is_flag f (day_at f)) _ (and_both (is_flag f (month_at f)) _ fills).1).1)

-- three lists of one chunk each, where they stand
pub record There (f : List ℕ) (ma da : ℕ) : Type 0 where
  pub year_chunk : OneChunk f 1 ma
  pub month_chunk : MaybeChunk f ma da
  pub day_chunk : MaybeChunk f da (length f)
  pub month_before : ma < da
  pub day_before : da < length f

module _ {f : List ℕ} {ma da : ℕ} (w : Threefold f ma da) where
  pub are-there : There f ma da
  are-there =
      let a = optional-above f ma in
      let b = optional-above f da in
      let e = all-filled f w.fills w.month_there w.day_there in
      record {
        year_chunk = one_chunk f 1 ma w.one_year w.month_there;
        month_chunk = maybe-chunk f ma da w.one_month w.day_there;
        day_chunk = maybe-chunk f da (length f) w.one_day (sym e);
        month_before = omega (arith, w.day_there);
        day_before = omega (arith, e);
      }

  pub month-starts : {hm : Bool} {m : ℕ} → hm ≡ has_list f ma → m ≡ text_start hm ma → m ≤ da
  month-starts eh em = rw (em, eh) are-there.month_chunk.starts

  pub day-starts : {hd : Bool} {d : ℕ} → hd ≡ has_list f da → d ≡ text_start hd da → d ≤ length f
  day-starts eg ed = rw (ed, eg) are-there.day_chunk.starts

  pub there-read : {hm hd : Bool} {m d i j : ℕ} {y mr dr : List ℕ} → hm ≡ has_list f ma → hd ≡ has_list f da → m ≡ text_start hm ma → d ≡ text_start hd da
      → i ≡ row_length hm → j ≡ row_length hd → y ≡ row_at f 2 → mr ≡ row_at f (ma + 2) → dr ≡ row_at f (da + 2)
      → three_fields (three (lent (take (ma - 12) (drop 12 f)) y) (optional hm (take (da - m) (drop m f)) (take i mr)) (optional hd (take (length f - d) (drop d f)) (take j dr))) ≡ read_of ThreeFields f
  unfolding read_of
  there-read eh eg em ed ei ej ey er es =
      let t = are-there in
      let a = t.year_chunk in
      let b = t.month_chunk in
      let c = t.day_chunk in
      rw (em, ed, ei, ej, ey, er, es, eh, eg, a.text_there, a.row_there, b.text_is_there, b.row_is_there, c.text_is_there, c.row_is_there, ← w.month_there, ← w.day_there)

-- `ma` and `da` are the places of the month list and the day list as they were found
module _ {f text table : List ℕ} (w : Room f text table) (fills : three_fill f ≡ true) {ma da : ℕ} (em : ma ≡ month_at f) (ed : da ≡ optional_end f ma) where
  all_end : optional_end f da ≡ length f
  all_end = all-filled f fills em ed

  pub year-asks : Room f text table × (list_end f 1 ≤ length f) × (0 ≤ 1) × (2 * 0 ≤ 1)
  year-asks = (w, (let a = optional-above f ma in let b = optional-above f da in omega (arith, all_end, em, ed)), omega arith, omega arith)

  -- the year list is put
  module _ {t₁ u₁ : List ℕ} {i i' : ℕ} (p : Put (list_text f 1) text 0 t₁ i) (p' : Put (list_table f 1) table 0 u₁ i') (l : i ≤ ma) (l' : 2 * i' ≤ ma) where
    pub month-asks : Room f t₁ u₁ × (optional_end f ma ≤ length f) × (i ≤ ma) × (2 * i' ≤ ma)
    month-asks = (same-room w (kept p) (kept p'), (let b = optional-above f da in omega (arith, all_end, ed)), l, l')

    -- and the month list, if there is one
    module _ {t₂ u₂ : List ℕ} {j j' : ℕ} (q : Put (optional_text f ma) t₁ i t₂ j) (q' : Put (optional_table f ma) u₁ i' u₂ j') (h : j ≤ da) (h' : 2 * j' ≤ da) where
      pub day-asks : Room f t₂ u₂ × (optional_end f da ≤ length f) × (j ≤ da) × (2 * j' ≤ da)
      day-asks = (same-room w (kept q ∙ kept p) (kept q' ∙ kept p'), omega (arith, all_end), h, h')

      -- and the day list
      module _ {t₃ u₃ : List ℕ} {k k' : ℕ} (r : Put (optional_text f da) t₂ j t₃ k) (r' : Put (optional_table f da) u₂ j' u₃ k') (g : k ≤ optional_end f da) (g' : 2 * k' ≤ optional_end f da) where
        in-text : k ≤ length text
        in-text = omega (arith, g, all_end, w.for_text)

        in_table : k' ≤ length table
        in_table = omega (arith, g', all_end, w.for_table)

        pub lists-ask : ((i ≤ j) × (j ≤ k) × (k ≤ length t₃)) × ((i' ≤ j') × (j' ≤ k') × (k' ≤ length u₃))
        lists-ask =
            (((in_order p q r in-text).0, (in_order p q r in-text).1, (let e = still p q r in-text in omega (arith, in-text))), ((in_order p' q' r' in_table).0, (in_order p' q' r' in_table).1, (let e = still p' q' r' in_table in omega (arith, in_table))))

        pub lists-are : {hm hd : Bool} → hm ≡ has_list f ma → hd ≡ has_list f da
            → read_lists t₃ u₃ hm hd (record { text = i; table = i' }) (record { text = j; table = j' }) (record { text = k; table = k' }) ≡ read_of ThreeFields f
        unfolding read_lists read_of
        lists-are eh eg = rw (eh, eg, part-1 p q r in-text, part-1 p' q' r' in_table, part-2 p q r in-text, part-2 p' q' r' in_table, part-3 p q r in-text, part-3 p' q' r' in_table, ← em, ← ed)

-- the operation of a frame decides
module _ (f : List ℕ) {op : Operation} (e : operation_of f ≡ op) where
  pub formed-read : formed op f ≡ true → read_of op f ≡ frame_read f
  unfolding frame_read pick
  formed-read t = rw (e, t)

  pub unformed-read : formed op f ≡ false → bad_frame ≡ frame_read f
  unfolding frame_read pick
  unformed-read t = rw (e, t)

-- the operation that was found
pub op-is : (f : List ℕ) {n : ℕ} {op o : Operation} → n ≡ byte_at f 0 → op ≡ asked n → op ≡ o → operation_of f ≡ o
op-is f en eo e = sym (ap asked en) ∙ sym eo ∙ e

-- and the line of what was read by it
pub answer_is : (f : List ℕ) {n : ℕ} {op : Operation} {r : Result Date Refusal} → n ≡ byte_at f 0 → op ≡ asked n → r ≡ frame_read f → line_by op r ≡ frame_answer f
unfolding frame_answer
answer_is f en eo er = rw (eo, en, er) refl

-- a list by other names
pub same-list : (op : Operation) {b c s t : List ℕ} → b ≡ c → s ≡ t → read_by op b s ≡ read_by op c t
same-list op e f = rw (e, f)

-- so many numbers of a row
pub row-short : (has : Bool) {n : ℕ} → n ≡ row_length has → n ≤ 4
unfolding row_length pick
row-short true e = omega (arith, e)
row-short false e = omega (arith, e)

pub row-taken : (f : List ℕ) (at : ℕ) (has : Bool) {n : ℕ} {r : List ℕ} → n ≡ row_length has → r ≡ row_at f at → n ≤ length r
row-taken f at has e er = let l = length-row f at in let h = row-short has e in rw er (omega arith)

-- an operation that reads one list: its frames are those that a list fills, and the list is read
pub list-formed : (f : List ℕ) (op : Operation) → reads_list op ≡ true → formed op f ≡ one_fills f
unfolding reads_list formed
list-formed f Ported r = refl
list-formed f Strict r = refl
list-formed f LevelOne r = refl
list-formed f ThreeFields r = absurd (false≢true r)
list-formed f Unknown r = absurd (false≢true r)

pub list-by : (f : List ℕ) (op : Operation) → reads_list op ≡ true → list_by op f ≡ read_of op f
unfolding reads_list read_by read_of
list-by f Ported r = refl
list-by f Strict r = refl
list-by f LevelOne r = refl
list-by f ThreeFields r = absurd (false≢true r)
list-by f Unknown r = absurd (false≢true r)

pub three-formed : (f : List ℕ) → three_fill f ≡ true → operation_of f ≡ ThreeFields → formed (operation_of f) f ≡ true
unfolding formed
three-formed f e a = rw a e

pub three-of : (f : List ℕ) → formed ThreeFields f ≡ three_fill f
unfolding formed
three-of f = refl

pub none-formed : (f : List ℕ) → formed Unknown f ≡ false
unfolding formed
none-formed f = refl

pub nothing_read : (f : List ℕ) → bad_frame ≡ read_of Unknown f
unfolding read_of
nothing_read f = refl

-- a line and the frame that it stands for
abbrev count_of : Option ℕ → ℕ
count_of (Some n) = n
count_of None = 0

abbrev is_bytes : Option ℕ → Bool
is_bytes (Some n) = true
is_bytes None = false

module _ (line frame : List ℕ) {frame' : List ℕ} {r : Option ℕ} (same : is_hex line (length frame) ≡ is_hex line 8192) (small : length frame ≤ 8192)
    (er : r ≡ decoded line (length frame)) (ef : frame' ≡ decoded_into line frame) where
  bytes-if : is_hex line (length frame) ≡ is_bytes r
  unfolding decoded pick
  bytes-if = rw er (of_test (is_hex line (length frame)) (λ q. rw q) (λ q. rw q))

  module _ {n : ℕ} (e : r ≡ Some n) where
    hex : is_hex line (length frame) ≡ true
    hex = bytes-if ∙ ap is_bytes e

    count : n ≡ half line
    unfolding decoded pick
    count = let g : decoded line (length frame) ≡ Some (half line) = rw hex in ap count_of (sym e ∙ er ∙ g)

    fits : half line ≤ length frame
    unfolding is_hex
    fits = leb-true (half line) (length frame) (and_both (leb (half line) (length frame)) _ (and_both (eqb (length line % 2) 0) _ hex).1).0

    bytes-are : take n frame' ≡ bytes_of line
    unfolding decoded_into pick
    bytes-are = rw (ef, hex) (take_at (bytes_of line) (drop (half line) frame) n (length-bytes line ∙ sym count))

    pub bytes-in : n ≤ length frame'
    unfolding decoded_into pick
    bytes-in = rw (ef, hex) (let a = length-append (bytes_of line) (drop (half line) frame) in let b = length-bytes line in omega (arith, count))

    pub frame_small : length (take n frame') ≤ 8192
    frame_small =
        let b = ap length bytes-are in
        let l = length-bytes line in
        omega (arith, small, fits)

    pub line-is : frame_answer (take n frame') ≡ line_answer line
    unfolding line_answer pick
    line-is = rw (bytes-are, ← same, hex)

  pub line-bad : r ≡ None → answer_line bad_frame ≡ line_answer line
  unfolding line_answer pick
  line-bad e = rw (← same, bytes-if, e)

-- the two sizes of arrays
pub short-same : (line : List ℕ) → length line ≤ 512 → is_hex line 256 ≡ is_hex line 8192
unfolding is_hex
short-same line h = rw (le-leb (half line) 256 (omega arith), le-leb (half line) 8192 (omega arith))

-- a line of more than 16,384 bytes is no frame
pub long-bad : (line : List ℕ) → 16384 < length line → line_answer line ≡ answer_line bad_frame
unfolding line_answer is_hex pick
long-bad line h =
    of_test (eqb (length line % 2) 0)
    (λ q. rw (q, lt-leb (half line) 8192 (let e = eqb-true (length line % 2) 0 q in omega arith)))
    (λ q. rw q)
