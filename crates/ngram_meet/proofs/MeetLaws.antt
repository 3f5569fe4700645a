-- The walk along a view's table and a stored one. `Meeting s p body k d n rest left m i j`: m is summed, and with what the entries from i on
-- share with those from place j on it is n, the whole; their counts sum to `rest` and `left`.
--     entry_next, entry-end                                   the stored entry at a place
--     meeting_before, meeting_same, meeting_after             a turn, by where the view's entry stands to the stored one
--     meeting_over, meeting_none                              with one of the two walked through
--     meeting_short                                           what is still to come cannot reach w
-- Assumes nothing.
use mathlib.Core.Path.{◌≡◌, refl, sym, ap, ap₂, ◌∙◌, subst}
use mathlib.Core.Bool.{Bool, true, false}
use mathlib.Core.List.{List, [], ◌∷◌}
use mathlib.Core.Option.{Option, none, some}
use Prim.Native.Nat.{ℕ, ◌+◌, ◌-◌, ◌≤◌, ◌<◌, min, Ordering}
use native.Mathlib.Omega.{arith}
use lib.Dec.{leb}
use lib.ListN.{length, take, drop}
use lib.Seq.{slice, drop-drop}
use borrow.Author.Tests.{leb-true, leb-false}
use Rattle.lists.proofs.SliceLaws.{part_at}
use Rattle.rules.specs.Sizes.{total_most}
use Rattle.rules.specs.Bytes.{order}
use Rattle.rules.specs.Prefix.{Counted}
use Rattle.rules.specs.declared.Value.{Value}
use Rattle.rules.specs.Table.{Table, value_of, score, count_in, meet, tallied, table_of, bigrams}
use Rattle.rules.specs.Book.{number, Piece, whole, broken, end, front, entry_form, entry_of, entries_of, also, go_on, pieces, shaped, table_in, sum, Rising}
use Rattle.rules.proofs.Steps.{pieces_step}
use Rattle.rules.proofs.OrderLaws.{flip, order_eq, order_flip, rises-is}
use Rattle.rules.proofs.TableLaws.{meet_left, meet_right, meet-both, meet_le, tallied-rising, tallied-sum, sound-entries-rising}
use Rattle.rules.proofs.SoundLaws.{table-sound, sound-some, body-total}
use Rattle.records.proofs.FrontLaws.{number-take, front-end, front-broken, front-whole}
use Rattle.sort_tally.specs.Group.{entries_at}
use Rattle.std.specs.declared.cmp.Ordering as code
use Rattle.std.specs.declared.cmp.Ordering.TheVariants.{Less, Equal, Greater}
use Rattle.ngram_order.specs.Sides.{side_of}
use Rattle.ngram_table.specs.Tables.{table_at}
use Rattle.floors.specs.declared.Floor.{Floor}
use Rattle.ngram_score.specs.Shares.{Useless, Reached}
use Rattle.floors.specs.Floors.{Judged}
use Rattle.ngram_score.proofs.FloorLaws.{judged}
use Rattle.ngram_table.proofs.LeftLaws.{view_left, view_entry, view-end, view-next}

-- ---- the stored entry at a place
abbrev pub entry_end : List ℕ → ℕ → ℕ
entry_end body j = j + 8 + number 4 (drop (j + 4) body)

abbrev pub stored_entry : List ℕ → ℕ → Counted
stored_entry body j = record { bytes = slice (j + 8) (entry_end body j) body; count = number 4 (drop j body) }

pub record NextEntry (body : List ℕ) (j : ℕ) (fs : List Counted) : Type 0 where
  pub rest : List Counted
  pub fits : entry_end body j ≤ length body
  pub first : fs ≡ stored_entry body j ∷ rest
  pub there : pieces entry_form entry_of (drop (entry_end body j) body) ≡ some rest

no : ◌≡◌ {A = ℕ} 0 1 → ⊥
no z = omega arith

module _ (body : List ℕ) (j : ℕ) where
  abbrev cut : Piece
  cut = record { head = take 8 (drop j body); body = take (number 4 (drop 4 (drop j body))) (drop 8 (drop j body)) }

  cut-entry : entry_of cut ≡ stored_entry body j
  unfolding entry_of
  cut-entry =
      let n : number 4 (drop 4 (drop j body)) ≡ number 4 (drop (j + 4) body) = ap (number 4) (drop-drop 4 j body) in
      let b : take (number 4 (drop 4 (drop j body))) (drop 8 (drop j body)) ≡ slice (j + 8) (entry_end body j) body =
      rw (n, drop-drop 8 j body) (part_at (j + 8) (number 4 (drop (j + 4) body)) body) in
      let k : number 4 (take 8 (drop j body)) ≡ number 4 (drop j body) = number-take 4 8 (drop j body) (omega arith) in
      λ i. record { bytes = b i; count = k i }

  opened : (fs : List Counted) (o : Option (List Counted)) → pieces entry_form entry_of (drop (entry_end body j) body) ≡ o →
      entry_end body j ≤ length body → also (entry_of cut) o ≡ some fs → NextEntry body j fs
  unfolding also
  opened fs none q h e = let z : ◌≡◌ {A = ℕ} 0 1 = cc in absurd (no z)
  opened fs (some rest) q h e =
      let a : fs ≡ entry_of cut ∷ rest = cc in
      record { rest = rest; fits = h; first = a ∙ ap (λ (f : Counted). f ∷ rest) cut-entry; there = q }

  step : pieces entry_form entry_of (drop j body) ≡ go_on entry_of (pieces entry_form entry_of) (front entry_form (drop j body))
  step = pieces_step entry_form entry_of (omega arith) (drop j body)

  pub entry_next : (fs : List Counted) → pieces entry_form entry_of (drop j body) ≡ some fs → j < length body → NextEntry body j fs
  unfolding go_on
  entry_next fs e h = go (leb (entry_end body j) (length body)) refl
    where
      go : (t : Bool) → leb (entry_end body j) (length body) ≡ t → NextEntry body j fs
      go true t =
          let k = leb-true (entry_end body j) (length body) t in
          let q : front entry_form (drop j body) ≡ whole cut (drop (entry_end body j) body) = front-whole entry_form body j h k in
          opened fs (pieces entry_form entry_of (drop (entry_end body j) body)) refl k
          (sym (ap (go_on entry_of (pieces entry_form entry_of)) q) ∙ sym step ∙ e)
      go false t =
          let q : front entry_form (drop j body) ≡ broken = front-broken entry_form body j h (leb-false (entry_end body j) (length body) t) in
          let z : none ≡ some fs = sym (ap (go_on entry_of (pieces entry_form entry_of)) q) ∙ sym step ∙ e in
          let y : ◌≡◌ {A = ℕ} 0 1 = cc in
          absurd (no y)

  pub entry-end : (fs : List Counted) → pieces entry_form entry_of (drop j body) ≡ some fs → length body ≤ j → fs ≡ []
  unfolding go_on
  entry-end fs e h =
      let q : front entry_form (drop j body) ≡ end = front-end entry_form body j h in
      let z : some [] ≡ some fs = sym (ap (go_on entry_of (pieces entry_form entry_of)) q) ∙ sym step ∙ e in
      cc

-- ---- the walk
pub record Meeting (s p body : List ℕ) (k d n rest left m i j : ℕ) : Type 0 where
  pub few : d ≤ k
  pub room : k + k ≤ length p
  pub most : n ≤ total_most
  pub rest-most : rest ≤ total_most
  pub left-most : left ≤ total_most
  pub stored : List Counted
  pub there : pieces entry_form entry_of (drop j body) ≡ some stored
  pub view-rising : Rising (view_left s p k d i)
  pub stored-rising : Rising stored
  pub both : m + meet (view_left s p k d i) stored ≡ n
  pub rest-is : rest ≡ sum (view_left s p k d i)
  pub left_is : left ≡ sum stored

sum_cons : (e : Counted) (es : List Counted) → sum (e ∷ es) ≡ e.count + sum es
unfolding sum
sum_cons e es = refl

-- where one stands to the other, by the code's answer
before-is : (o : Ordering) → side_of o ≡ Less → o ≡ Ordering.lt
before-is Ordering.lt e = refl
before-is Ordering.eq e = let z : ◌≡◌ {A = ℕ} 0 1 = cc in absurd (no z)
before-is Ordering.gt e = let z : ◌≡◌ {A = ℕ} 0 1 = cc in absurd (no z)

same-is : (o : Ordering) → side_of o ≡ Equal → o ≡ Ordering.eq
same-is Ordering.lt e = let z : ◌≡◌ {A = ℕ} 0 1 = cc in absurd (no z)
same-is Ordering.eq e = refl
same-is Ordering.gt e = let z : ◌≡◌ {A = ℕ} 0 1 = cc in absurd (no z)

after_is : (o : Ordering) → side_of o ≡ Greater → o ≡ Ordering.gt
after_is Ordering.lt e = let z : ◌≡◌ {A = ℕ} 0 1 = cc in absurd (no z)
after_is Ordering.eq e = let z : ◌≡◌ {A = ℕ} 0 1 = cc in absurd (no z)
after_is Ordering.gt e = refl

module _ {s p body : List ℕ} {k d n rest left m i j : ℕ} (c : Meeting s p body k d n rest left m i j) (h : i < d) (l : j < length body) where
  abbrev nx : NextEntry body j c.stored
  nx = entry_next body j c.stored c.there l

  pub meeting_fits : entry_end body j ≤ length body
  meeting_fits = nx.fits

  abbrev e : Counted
  e = view_entry s p k i

  abbrev f : Counted
  f = stored_entry body j

  abbrev es : List Counted
  es = view_left s p k d (i + 1)

  view : view_left s p k d i ≡ e ∷ es
  view = view-next s p k d i h c.few c.room

  up : Rising (e ∷ es)
  up = subst Rising view c.view-rising

  down : Rising (f ∷ nx.rest)
  down = subst Rising nx.first c.stored-rising

  pub meeting_rest : rest ≡ e.count + sum es
  meeting_rest = c.rest-is ∙ ap sum view ∙ sum_cons e es

  pub meeting_left : left ≡ f.count + sum nx.rest
  meeting_left = c.left_is ∙ ap sum nx.first ∙ sum_cons f nx.rest

  sums : m + meet (e ∷ es) (f ∷ nx.rest) ≡ n
  sums = ap₂ (λ (us vs : List Counted). m + meet us vs) (sym view) (sym nx.first) ∙ c.both

  module _ (r : code.Ordering) (q : r ≡ side_of (order e.bytes f.bytes)) where
    pub meeting_before : r ≡ Less → Meeting s p body k d n (rest - e.count) left m (i + 1) j
    meeting_before w =
        let o = before-is (order e.bytes f.bytes) (sym q ∙ w) in
        record {
          few = c.few;
          room = c.room;
          most = c.most;
          rest-most = omega (arith, c.rest-most);
          left-most = c.left-most;
          stored = c.stored;
          there = c.there;
          view-rising = up.2;
          stored-rising = c.stored-rising;
          rest-is = omega (arith, meeting_rest);
          left_is = c.left_is;
          both =
              rw nx.first
              (ap (λ (x : ℕ). m + x) (sym (meet_left e es (f ∷ nx.rest) ((rises-is e.bytes f.bytes).1 o) down)) ∙ sums);
        }

    pub meeting_same : r ≡ Equal → Meeting s p body k d n (rest - e.count) (left - f.count) (m + min e.count f.count) (i + 1) (entry_end body j)
    meeting_same w =
        let o = same-is (order e.bytes f.bytes) (sym q ∙ w) in
        record {
          few = c.few;
          room = c.room;
          most = c.most;
          rest-most = omega (arith, c.rest-most);
          left-most = omega (arith, c.left-most);
          stored = nx.rest;
          there = nx.there;
          view-rising = up.2;
          stored-rising = down.2;
          rest-is = omega (arith, meeting_rest);
          left_is = omega (arith, meeting_left);
          both = omega (arith, sums, meet-both e es f nx.rest ((order_eq e.bytes f.bytes).0 o) up down);
        }

    pub meeting_after : r ≡ Greater → Meeting s p body k d n rest (left - f.count) m i (entry_end body j)
    meeting_after w =
        let o = after_is (order e.bytes f.bytes) (sym q ∙ w) in
        let t : order f.bytes e.bytes ≡ Ordering.lt = order_flip e.bytes f.bytes ∙ ap flip o in
        record {
          few = c.few;
          room = c.room;
          most = c.most;
          rest-most = c.rest-most;
          left-most = omega (arith, c.left-most);
          stored = nx.rest;
          there = nx.there;
          view-rising = c.view-rising;
          stored-rising = down.2;
          rest-is = c.rest-is;
          left_is = omega (arith, meeting_left);
          both =
              rw view (ap (λ (x : ℕ). m + x) (sym (meet_right (e ∷ es) f nx.rest ((rises-is f.bytes e.bytes).1 t) up)) ∙ sums);
        }

meet_nothing : (es : List Counted) → meet es [] ≡ 0
unfolding meet count_in
meet_nothing [] = refl
meet_nothing (e ∷ es) = omega (arith, meet_nothing es)

meet_empty : (fs : List Counted) → meet [] fs ≡ 0
unfolding meet
meet_empty fs = refl

module _ {s p body : List ℕ} {k d n rest left m i j : ℕ} (c : Meeting s p body k d n rest left m i j) (w : ℕ) where
  whole_sum : m ≡ n → Reached w n m
  whole_sum e = record { most = omega arith; whole = λ _. e }

  -- the stored table is walked through
  pub meeting_over : length body ≤ j → Reached w n m
  meeting_over h =
      let z = entry-end body j c.stored c.there h in
      let y = rw z at c.both in
      whole_sum (omega (arith, y, meet_nothing (view_left s p k d i)))

  -- the view's is
  pub meeting_none : d ≤ i → Reached w n m
  meeting_none h =
      let y = rw (view-end s p k d i h) at c.both in
      whole_sum (omega (arith, y, meet_empty c.stored))

  -- what is left to share is at most what is left of each
  pub meeting_short : m + min rest left < w → Reached w n m
  meeting_short h =
      let le = meet_le (view_left s p k d i) c.stored c.view-rising c.stored-rising in
      let below : n < w = omega (arith, h, le.0, le.1, c.both, c.rest-is, c.left_is) in
      record { most = omega (arith, c.both); whole = λ (u : w ≤ n). absurd (omega (arith, u, below)) }

-- ---- the start
view-total : (s p : List ℕ) (k d : ℕ) → table_at s p k d ≡ table_of (bigrams s) → k ≡ length (bigrams s)
unfolding table_at table_of
view-total s p k d t = ap (λ (x : Table). x.total) t

pub meeting_start : (s p body : List ℕ) (k d left : ℕ) → d ≤ k → k + k ≤ length p → k ≤ total_most → table_at s p k d ≡ table_of (bigrams s) →
    shaped body (entries_of body) ≡ true → left ≡ number 4 body →
    Meeting s p body k d (meet (tallied (bigrams s)) (table_in body (entries_of body)).entries) k left 0 0 8
unfolding table_at table_of entries_at entries_of
meeting_start s p body k d left l r b t h q =
    let es : view_left s p k d 0 ≡ tallied (bigrams s) = ap (λ (x : Table). x.entries) t in
    let fs = (table_in body (entries_of body)).entries in
    let sound = table-sound body (entries_of body) h in
    let up = tallied-rising (bigrams s) in
    let stored-up : Rising fs = (sound-entries-rising [] fs sound.0).1 in
    let left_is : left ≡ sum fs = q ∙ sym (body-total body (entries_of body) h) ∙ sound.1 in
    record {
      few = l;
      room = r;
      most = omega (arith, (meet_le (tallied (bigrams s)) fs up stored-up).1, sound.2);
      stored = fs;
      there = sound-some body (entries_of body) h;
      view-rising = rw es up;
      stored-rising = stored-up;
      both = rw es (omega arith);
      rest-most = b;
      left-most = omega (arith, left_is, sound.2);
      rest-is = view-total s p k d t ∙ sym (tallied-sum (bigrams s)) ∙ ap sum (sym es);
      left_is = left_is;
    }

-- ---- the value of the two tables
module _ (s p body : List ℕ) (k d b : ℕ) (t : table_at s p k d ≡ table_of (bigrams s)) (h : shaped body (entries_of body) ≡ true)
    (q : b ≡ number 4 body) where
  abbrev pub shared_count : ℕ
  shared_count = meet (tallied (bigrams s)) (table_in body (entries_of body)).entries

  pub shared-limits : (shared_count ≤ k) × (shared_count ≤ b) × (b ≤ total_most)
  shared-limits =
      let fs = (table_in body (entries_of body)).entries in
      let sound = table-sound body (entries_of body) h in
      let up : Rising fs = (sound-entries-rising [] fs sound.0).1 in
      let le = meet_le (tallied (bigrams s)) fs (tallied-rising (bigrams s)) up in
      let n = tallied-sum (bigrams s) in
      let a = view-total s p k d t in
      let w = body-total body (entries_of body) h in
      (omega arith, omega arith, omega arith)

  value-is : ◌≡◌ {A = Value} (record { score = score shared_count k b; m = shared_count; t = k + b }) (value_of (table_of (bigrams s)) (table_in body (entries_of body)))
  unfolding value_of table_of
  value-is =
      let a = view-total s p k d t in
      let w = q ∙ sym (body-total body (entries_of body) h) in
      λ i. record { score = score shared_count (a i) (w i); m = shared_count; t = a i + w i }

  pub value_judged : (floor : Floor) (w m : ℕ) (v : Value) → k ≤ total_most → Useless floor k b w → Reached w shared_count m →
      v ≡ record { score = score m k b; m = m; t = k + b } → Judged floor (value_of (table_of (bigrams s)) (table_in body (entries_of body))) v
  value_judged floor w m v A u r e =
      let l = shared-limits in
      rw (e, ← value-is) (judged floor k b A l.2 w shared_count m l.0 l.1 u r)
