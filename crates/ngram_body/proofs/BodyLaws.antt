-- The loops that write a table's body: an entry (`entry-put`), all entries (`body-..`), and the length
-- of the whole (`length-..`).
-- Assumes nothing.
use mathlib.Core.Path.{◌≡◌, refl, sym, ap, ◌∙◌}
use mathlib.Core.List.{List, [], ◌++◌, append_assoc}
use Prim.Native.Nat.{ℕ, zero, suc, ◌+◌, ◌*◌, ◌≤◌, ◌<◌}
use native.Mathlib.Omega.{arith}
use lib.ListN.{length, take, drop, get_or, length-append, length-drop}
use lib.Seq.{paste}
use Rattle.lists.specs.Wrote.{Wrote}
use Rattle.lists.proofs.WriteLaws.{Part, part-start, part_puts, part-space, part_end}
use Rattle.rules.specs.Prefix.{Counted}
use Rattle.rules.specs.Book.{written, entries_out, table_out}
use Rattle.records.specs.Written.{put_at}
use Rattle.records.proofs.NumberLaws.{length-written, put_two}
use Rattle.sort_spread.specs.Sort.{part_of}
use Rattle.sort_tally.specs.Group.{entries_at}
use Rattle.sort_order.proofs.PartLaws.{part-front, part-short}
use Rattle.ngram_table.specs.Tables.{table_at}
use Rattle.ngram_body.specs.Bodies.{entry_out}
use Rattle.ngram_table.proofs.LeftLaws.{view_left, view_entry, view-next, view-end}

-- ---- an entry
module _ (s : List ℕ) (a : ℕ) where
  abbrev part : List ℕ
  part = part_of 32 2 (drop a s)

  -- the part is what a copy of as many bytes from a on writes
  part_pasted : (at : ℕ) (d : List ℕ) → paste d at (drop a s) (length part) ≡ put_at at part d
  unfolding put_at
  part_pasted at d = ap (λ (l : List ℕ). take at d ++ l ++ drop (at + length part) d) (sym (part-front 32 2 (drop a s)))

  pub part-inside : a < a + length part → a + length part ≤ length s
  part-inside h = omega (arith, part-short 32 2 (drop a s), length-drop a s)

  pub part-most : length part ≤ length s
  part-most = omega (arith, part-short 32 2 (drop a s), length-drop a s)

  pub entry-put : (count at len : ℕ) (d : List ℕ) → len ≡ length part → at + (8 + length part) ≤ length d →
      paste (put_at (at + 4) (written 4 len) (put_at at (written 4 count) d)) (at + 8) (drop a s) len ≡
      put_at at (entry_out (record { bytes = part; count = count })) d
  unfolding entry_out
  entry-put count at len d n h =
      let four = length-written 4 count in
      let x = written 4 count in
      let y = written 4 (length part) in
      let eight : length (x ++ y) ≡ 8 = omega (arith, length-append x y, four, length-written 4 (length part)) in
      let p : put_at (at + 4) y (put_at at x d) ≡ put_at at (x ++ y) d =
      ap (λ (k : ℕ). put_at (at + k) y (put_at at x d)) (sym four) ∙ put_two at x y d (omega arith) in
      let q : put_at (at + 8) part (put_at at (x ++ y) d) ≡ put_at at (x ++ y ++ part) d =
      ap (λ (k : ℕ). put_at (at + k) part (put_at at (x ++ y) d)) (sym eight) ∙ put_two at (x ++ y) part d (omega arith) in
      rw (n, part_pasted (at + 8) (put_at (at + 4) y (put_at at x d)), p) q

pub length-entry : (e : Counted) → length (entry_out e) ≡ 8 + length e.bytes
unfolding entry_out
length-entry e =
    omega (
      arith,
      length-append (written 4 e.count ++ written 4 (length e.bytes)) e.bytes,
      length-append (written 4 e.count) (written 4 (length e.bytes)),
      length-written 4 e.count,
      length-written 4 (length e.bytes),
    )

-- ---- all entries
module _ (s p : List ℕ) (k d i : ℕ) where
  out-next : i < d → d ≤ k → k + k ≤ length p →
      entries_out (view_left s p k d i) ≡ entry_out (view_entry s p k i) ++ entries_out (view_left s p k d (i + 1))
  unfolding entries_out entry_out
  out-next h l r = rw (view-next s p k d i h l r)

  out-end : d ≤ i → entries_out (view_left s p k d i) ≡ []
  unfolding entries_out
  out-end h = rw (view-end s p k d i h)

-- the head, and the entries
length-view : (s p : List ℕ) (k d : ℕ) → d ≤ k → k + k ≤ length p → length (entries_at 32 2 s p k d) ≡ d
unfolding entries_at
length-view s p k d l r = go d 0 (omega arith)
  where
    go : (n i : ℕ) → i + n ≡ d → length (view_left s p k d i) ≡ n
    go zero i e = ap length (view-end s p k d i (omega arith))
    go (suc n) i e = ap length (view-next s p k d i (omega arith) l r) ∙ ap suc (go n (i + 1) (omega arith))

module _ (s p : List ℕ) (k d : ℕ) (l : d ≤ k) (r : k + k ≤ length p) where
  out-is : table_out (table_at s p k d) ≡ written 4 k ++ written 4 d ++ entries_out (view_left s p k d 0)
  unfolding table_out table_at
  out-is = ap (λ (n : ℕ). written 4 k ++ written 4 n ++ entries_out (entries_at 32 2 s p k d)) (length-view s p k d l r) ∙ unfold entries_at in refl

  length-out : length (table_out (table_at s p k d)) ≡ 8 + length (entries_out (view_left s p k d 0))
  length-out =
      omega (
        arith,
        ap length out-is,
        length-append (written 4 k ++ written 4 d) (entries_out (view_left s p k d 0)),
        length-append (written 4 k) (written 4 d),
        length-written 4 k,
        length-written 4 d,
      )

  pub out_eight : 8 ≤ length (table_out (table_at s p k d))
  out_eight = omega (arith, length-out)

-- ---- the loop that measures
pub record Measuring (s p : List ℕ) (k d n i : ℕ) : Type 0 where
  pub few : d ≤ k
  pub room : k + k ≤ length p
  pub within : i ≤ d
  pub most : n ≤ 8 + i * 16777224
  pub rest : n + length (entries_out (view_left s p k d i)) ≡ length (table_out (table_at s p k d))

pub measuring_start : (s p : List ℕ) (k d : ℕ) → d ≤ k → k + k ≤ length p → Measuring s p k d 8 0
measuring_start s p k d l r =
    record { few = l; room = r; within = omega arith; most = omega arith; rest = sym (length-out s p k d l r) }

module _ {s p : List ℕ} {k d n i : ℕ} (c : Measuring s p k d n i) where
  pub measuring_next : i < d → length s ≤ 16777216 → (n' : ℕ) → n' ≡ n + (8 + length (part_of 32 2 (drop (get_or p i 0) s))) → Measuring s p k d n' (i + 1)
  measuring_next h t n' e =
      let b = part-most s (get_or p i 0) in
      record {
        few = c.few;
        room = c.room;
        within = omega arith;
        most = omega (arith, c.most);
        rest =
            omega (
              arith,
              c.rest,
              ap length (out-next s p k d i h c.few c.room),
              length-entry (view_entry s p k i),
              length-append (entry_out (view_entry s p k i)) (entries_out (view_left s p k d (i + 1))),
            );
      }

  pub measuring_end : d ≤ i → n ≡ length (table_out (table_at s p k d))
  measuring_end h = omega (arith, c.rest, ap length (out-end s p k d i h))

-- ---- the loop that writes
pub record Bodying (s p o₀ o : List ℕ) (k d w i : ℕ) : Type 0 where
  pub few : d ≤ k
  pub room : k + k ≤ length p
  pub part : Part (table_out (table_at s p k d)) (entries_out (view_left s p k d i)) o₀ o w

pub body-start : (s p o : List ℕ) (k d : ℕ) → d ≤ k → k + k ≤ length p → length (table_out (table_at s p k d)) ≤ length o →
    Bodying s p o (put_at 4 (written 4 d) (put_at 0 (written 4 k) o)) k d 8 0
unfolding put_at
body-start s p o k d l r h =
    let whole = table_out (table_at s p k d) in
    let rest = entries_out (view_left s p k d 0) in
    let e : whole ≡ written 4 k ++ (written 4 d ++ rest) = out-is s p k d l r ∙ append_assoc (written 4 k) (written 4 d) rest in
    let a = part-start whole o h in
    let z : 0 + length (written 4 k) ≡ 4 = omega (arith, length-written 4 k) in
    let b : Part whole (written 4 d ++ rest) o (put_at 0 (written 4 k) o) 4 =
    part_puts (written 4 k) e (sym z) (ap (λ (j : ℕ). take 0 o ++ written 4 k ++ drop j o) z) a in
    let n : 4 + length (written 4 d) ≡ 8 = omega (arith, length-written 4 d) in
    record {
      few = l;
      room = r;
      part = part_puts (written 4 d) refl (sym n) (ap (λ (j : ℕ). take 4 (put_at 0 (written 4 k) o) ++ written 4 d ++ drop j (put_at 0 (written 4 k) o)) n) b;
    }

module _ {s p o₀ o : List ℕ} {k d w i : ℕ} (c : Bodying s p o₀ o k d w i) where
  pub body-space : i < d → w + (8 + length (part_of 32 2 (drop (get_or p i 0) s))) ≤ length o
  body-space h =
      omega (
        arith,
        part-space (entry_out (view_entry s p k i)) (entries_out (view_left s p k d (i + 1))) (out-next s p k d i h c.few c.room) c.part,
        length-entry (view_entry s p k i),
      )

  pub body-next : i < d → (w' : ℕ) (o' : List ℕ) → w' ≡ w + (8 + length (part_of 32 2 (drop (get_or p i 0) s))) → o' ≡ put_at w (entry_out (view_entry s p k i)) o →
      Bodying s p o₀ o' k d w' (i + 1)
  unfolding put_at
  body-next h w' o' e q =
      let n : w' ≡ w + length (entry_out (view_entry s p k i)) = omega (arith, length-entry (view_entry s p k i)) in
      record {
        few = c.few;
        room = c.room;
        part =
            part_puts (entry_out (view_entry s p k i)) (out-next s p k d i h c.few c.room) n
            (q ∙ ap (λ (j : ℕ). take w o ++ entry_out (view_entry s p k i) ++ drop j o) (sym n)) c.part;
      }

  pub body_end : d ≤ i → Wrote (table_out (table_at s p k d)) o₀ w o
  body_end h = part_end (out-end s p k d i h) c.part
