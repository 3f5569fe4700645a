-- The list of prefixes as it grows: `Listing` is what `list_prefixes` keeps, with what is still to come behind what stands.
-- Assumes nothing.
use mathlib.Core.Path.{◌≡◌, refl, sym, ap, ◌∙◌}
use mathlib.Core.Bool.{true, false}
use mathlib.Core.List.{List, [], ◌∷◌, ◌++◌, append_assoc, append-nil}
use Prim.Native.Nat.{ℕ, suc, ◌+◌, ◌-◌, ◌*◌, ◌≤◌, ◌<◌}
use native.Mathlib.Nat.{add-zero}
use native.Mathlib.Numerals.{add-one}
use native.Mathlib.Omega.{arith}
use lib.Dec.{ltb}
use lib.ListN.{length, take, drop, set, length-set, length-drop}
use lib.Seq.{slice, slice_empty, paste, length-paste, take-paste, take-suc-set, take-take, drop-append-le, length-take-le, take-append-le}
use Rattle.lists.proofs.SliceLaws.{part_at}
use Rattle.rules.specs.Points.{encoded}
use Rattle.slices.specs.declared.ends.ByteSpan.{ByteSpan}
use Rattle.preproc_table.specs.Entries.{start_at, end_at, line_at, Apart}
use Rattle.preproc_table.proofs.EntryLaws.{start-same, end_same, line_same}
use Rattle.prefix_list.specs.Listing.{listed, starts_from, PairLies, Shared, ListStands}
use Rattle.prefix_list.proofs.ShareLaws.{rest, both, prefixes-step, prefixes-done}

-- a prefix and a newline behind what stands
pub put-there : (d d₁ : List ℕ) (from k to : ℕ) → from + k ≤ to → to + k < length d → d₁ ≡ paste d to (drop from d) k →
    take (to + k + 1) (set d₁ (to + k) 10) ≡ take to d ++ (slice from (from + k) d ++ 10 ∷ [])
put-there d d₁ from k to a b e =
    let s : k ≤ length (drop from d) = rw length-drop (omega arith) in
    let l : length d₁ ≡ length d = rw e (length-paste d to (drop from d) k (omega arith) s) in
    let t : take (to + k) d₁ ≡ take to d ++ take k (drop from d) = rw e (take-paste d to (drop from d) k (omega arith) s) in
    rw (add-one (to + k)) (take-suc-set d₁ (to + k) 10 (omega arith) ∙ rw (t, part_at from k d) (append_assoc (take to d) (slice from (from + k) d) (10 ∷ [])))

pub record Listing (n i₀ stop : ℕ) (area₀ table₀ area table : List ℕ) (k w i : ℕ) : Type 0 where
  pub few : k + i₀ ≤ i
  pub within : i ≤ stop
  pub low : 4 * n ≤ w
  pub high : w ≤ 7 * n
  pub room : i + 1 < stop → w ≤ 3 * n + start_at table₀ i
  pub area_long : length area ≡ length area₀
  pub table-long : length table ≡ length table₀
  pub area_low : take (4 * n) area ≡ take (4 * n) area₀
  pub table-low : take (2 * n + 2) table ≡ take (2 * n + 2) table₀
  pub bytes : slice (4 * n) w area ++ listed (rest area₀ table₀ stop i) ≡ listed (rest area₀ table₀ stop i₀)
  pub starts : slice (2 * n + 2) (2 * n + 2 + k) table ++ starts_from w (rest area₀ table₀ stop i) ≡ starts_from (4 * n) (rest area₀ table₀ stop i₀)

module _ (n count stop : ℕ) (area₀ table₀ : List ℕ) (apart : Apart n (4 * n) table₀ count) (up : stop ≤ count) (lines : count ≤ n + 1)
    (bytes-room : 8 * n + 64 ≤ length area₀) (words-room : 12 * n + 64 ≤ length table₀) where
  pub listing_start : (i₀ : ℕ) → i₀ ≤ stop → Listing n i₀ stop area₀ table₀ area₀ table₀ 0 (4 * n) i₀
  listing_start i₀ h =
      record {
        few = omega arith;
        within = h;
        low = omega arith;
        high = omega arith;
        room = λ l. omega (arith, apart.low i₀ (omega arith));
        area_long = refl;
        table-long = refl;
        area_low = refl;
        table-low = refl;
        bytes = rw (slice_empty (4 * n) area₀);
        starts = rw (add-zero (2 * n + 2), slice_empty (2 * n + 2) table₀);
      }

  module _ (i₀ : ℕ) (area table : List ℕ) (k w i : ℕ) (l : Listing n i₀ stop area₀ table₀ area table k w i) (h : i + 1 < stop) where
    abbrev from_start : (j : ℕ) → j < n + 1 → start_at table j ≡ start_at table₀ j
    from_start = start-same (n + 1) (2 * n + 2) (omega arith) table table₀ l.table-low

    abbrev from_end : (j : ℕ) → j < n + 1 → end_at table j ≡ end_at table₀ j
    from_end = end_same (n + 1) (2 * n + 2) (omega arith) table table₀ l.table-low

    pub listing_lies : PairLies area table i
    listing_lies =
        let a : i < n + 1 = omega arith in
        let b : i + 1 < n + 1 = omega arith in
        record {
          order = rw (from_start i a, from_end i a) (apart.order i (omega arith));
          high = omega (arith, from_end i a, apart.high i (omega arith), l.area_long);
          next-order = rw (from_start (i + 1) b, from_end (i + 1) b) (apart.order (i + 1) (omega arith));
          next-high = omega (arith, from_end (i + 1) b, apart.high (i + 1) (omega arith), l.area_long);
        }

    module _ (s : ByteSpan) (sh : Shared area table i s) where
      below : s.end ≤ end_at table₀ i
      below = omega (arith, sh.high, from_end i (omega arith))

      above : start_at table₀ i ≤ s.start
      above = omega (arith, sh.low, from_start i (omega arith))

      abbrev line_of : (j : ℕ) → j < stop → line_at area table j ≡ line_at area₀ table₀ j
      line_of j b = line_same (n + 1) (2 * n + 2) (omega arith) table table₀ l.table-low (4 * n) area area₀ l.area_low j (omega arith) (apart.high j (omega arith))

      taken : slice s.start s.end area ≡ both area₀ table₀ i
      taken = sh.bytes ∙ rw (line_of i (omega arith), line_of (i + 1) h)

      taken-long : length (both area₀ table₀ i) ≡ s.end - s.start
      taken-long =
          let e : s.end ≤ length area = omega (arith, below, apart.high i (omega arith), l.area_long) in
          rw (← taken, length-drop) (omega (arith, length-take-le s.end area e))

      -- there is room for it
      pub listing_room : (s.start ≤ s.end) × (s.end ≤ w) × (w + (s.end - s.start) + 1 ≤ 3 * n + start_at table₀ (i + 1)) × (w + (s.end - s.start) < 7 * n)
      listing_room =
          let a = apart.apart i (i + 1) (omega arith) (omega arith) in
          let b = apart.order (i + 1) (omega arith) in
          let c = apart.high (i + 1) (omega arith) in
          let d = apart.high i (omega arith) in
          let r = l.room h in (
            sh.order,
            omega (arith, below, l.low),
            omega (arith, below, above, sh.order),
            omega (arith, below, above, sh.order),
          )

      -- too short: nothing is listed
      pub listing_skip : ltb 3 (length (encoded (slice s.start s.end area))) ≡ false → Listing n i₀ stop area₀ table₀ area table k w (i + 1)
      listing_skip short =
          let e : ltb 3 (length (encoded (both area₀ table₀ i))) ≡ false = ap (λ (p : List ℕ). ltb 3 (length (encoded p))) (sym taken) ∙ short in
          let q : rest area₀ table₀ stop i ≡ rest area₀ table₀ stop (i + 1) = rw e at (prefixes-step area₀ table₀ i stop h) in
          record {
            few = omega (arith, l.few);
            within = omega arith;
            low = l.low;
            high = l.high;
            room = λ g. omega (arith, listing_room.2);
            area_long = l.area_long;
            table-long = l.table-long;
            area_low = l.area_low;
            table-low = l.table-low;
            bytes = rw q at l.bytes;
            starts = rw q at l.starts;
          }

      module _ (len : ℕ) (el : len ≡ s.end - s.start) (long : ltb 3 (length (encoded (slice s.start s.end area))) ≡ true) (area' : List ℕ) (same-long : length area' ≡ length area)
          (put : take (w + len + 1) area' ≡ take w area ++ (slice s.start (s.start + len) area ++ 10 ∷ [])) where
        more : rest area₀ table₀ stop i ≡ both area₀ table₀ i ∷ rest area₀ table₀ stop (i + 1)
        more =
            let e : ltb 3 (length (encoded (both area₀ table₀ i))) ≡ true = ap (λ (p : List ℕ). ltb 3 (length (encoded p))) (sym taken) ∙ long in
            rw e at (prefixes-step area₀ table₀ i stop h)

        copied : slice s.start (s.start + len) area ≡ both area₀ table₀ i
        copied =
            let e : s.start + len ≡ s.end = omega (arith, sh.order) in
            rw e taken

        w_in : w ≤ length area
        w_in = omega (arith, l.high, l.area_long)

        area_there : slice (4 * n) (w + len + 1) area' ≡ slice (4 * n) w area ++ (both area₀ table₀ i ++ 10 ∷ [])
        area_there =
            let g : 4 * n ≤ length (take w area) = rw (length-take-le w area w_in) l.low in
            ap (drop (4 * n)) put ∙ drop-append-le (4 * n) (take w area) (slice s.start (s.start + len) area ++ 10 ∷ []) g ∙ rw copied

        area_front : take (4 * n) area' ≡ take (4 * n) area₀
        area_front =
            let g : 4 * n ≤ length (take w area) = rw (length-take-le w area w_in) l.low in
            sym (take-take (4 * n) (w + len + 1) area' (omega (arith, l.low)))
            ∙ ap (take (4 * n)) put
            ∙ take-append-le (4 * n) (take w area) (slice s.start (s.start + len) area ++ 10 ∷ []) g
            ∙ take-take (4 * n) w area l.low
            ∙ l.area_low

        place : 2 * n + 2 + k < length table
        place = omega (arith, l.few, l.table-long)

        table-there : slice (2 * n + 2) (2 * n + 2 + (k + 1)) (set table (2 * n + 2 + k) w) ≡ slice (2 * n + 2) (2 * n + 2 + k) table ++ (w ∷ [])
        table-there =
            let e : 2 * n + 2 + (k + 1) ≡ suc (2 * n + 2 + k) = omega arith in
            let g : 2 * n + 2 ≤ length (take (2 * n + 2 + k) table) = rw (length-take-le (2 * n + 2 + k) table (omega (arith, place))) (omega arith) in
            rw (e, take-suc-set table (2 * n + 2 + k) w place) (drop-append-le (2 * n + 2) (take (2 * n + 2 + k) table) (w ∷ []) g)

        table-front : take (2 * n + 2) (set table (2 * n + 2 + k) w) ≡ take (2 * n + 2) table₀
        table-front =
            let g : 2 * n + 2 ≤ length (take (2 * n + 2 + k) table) = rw (length-take-le (2 * n + 2 + k) table (omega (arith, place))) (omega arith) in
            sym (take-take (2 * n + 2) (suc (2 * n + 2 + k)) (set table (2 * n + 2 + k) w) (omega arith))
            ∙ ap (take (2 * n + 2)) (take-suc-set table (2 * n + 2 + k) w place)
            ∙ take-append-le (2 * n + 2) (take (2 * n + 2 + k) table) (w ∷ []) g
            ∙ take-take (2 * n + 2) (2 * n + 2 + k) table (omega arith)
            ∙ l.table-low

        both_long : length (both area₀ table₀ i) ≡ len
        both_long = omega (arith, taken-long)

        listed_more : (us p : List ℕ) (qs : List (List ℕ)) → (us ++ (p ++ 10 ∷ [])) ++ listed qs ≡ us ++ listed (p ∷ qs)
        unfolding listed
        listed_more us p qs = simp append_assoc

        starts_more : (us p : List ℕ) (qs : List (List ℕ)) (m : ℕ) → length p ≡ m → (us ++ (w ∷ [])) ++ starts_from (w + m + 1) qs ≡ us ++ starts_from w (p ∷ qs)
        unfolding starts_from
        starts_more us p qs m e = rw (e, append_assoc us (w ∷ []) (starts_from (w + m + 1) qs))

        pub listing_put : Listing n i₀ stop area₀ table₀ area' (set table (2 * n + 2 + k) w) (k + 1) (w + len + 1) (i + 1)
        listing_put =
            record {
              few = omega (arith, l.few);
              within = omega arith;
              low = omega (arith, l.low);
              high = omega (arith, listing_room.3);
              room = λ g. omega (arith, listing_room.2);
              area_long = same-long ∙ l.area_long;
              table-long = length-set table (2 * n + 2 + k) w ∙ l.table-long;
              area_low = area_front;
              table-low = table-front;
              bytes = rw area_there (listed_more (slice (4 * n) w area) (both area₀ table₀ i) (rest area₀ table₀ stop (i + 1)) ∙ rw more at l.bytes);
              starts = rw table-there (starts_more (slice (2 * n + 2) (2 * n + 2 + k) table) (both area₀ table₀ i) (rest area₀ table₀ stop (i + 1)) len both_long ∙ rw more at l.starts);
            }

-- with no neighbours left all stands
pub listing_end : {n i₀ stop : ℕ} {area₀ table₀ area table : List ℕ} {k w i : ℕ} → Listing n i₀ stop area₀ table₀ area table k w i → stop ≤ i + 1 → stop ≤ n + 1 →
    ListStands n (rest area₀ table₀ stop i₀) area₀ table₀ (record { k = k; end = w }) area table
unfolding listed starts_from
listing_end {n} {i₀} {stop} {area₀} {table₀} {area} {table} {k} {w} {i} l h up =
    let e = prefixes-done area₀ table₀ i stop h in
    record {
      low = l.low;
      high = l.high;
      few = omega (arith, l.few, l.within);
      bytes = sym (append-nil (slice (4 * n) w area)) ∙ rw e at l.bytes;
      starts = sym (append-nil (slice (2 * n + 2) (2 * n + 2 + k) table)) ∙ rw e at l.starts;
      area_low = l.area_low;
      table-low = l.table-low;
    }
