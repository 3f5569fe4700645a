-- Aggressive pass 1, read from the list of the common prefixes: what `see_all` keeps of it, one prefix after the other (`seen_first`);
-- the winner is the first one of the list that stands in it most often (`winner-most`); and the sum over the stored ones is the sum
-- over the table of the list, one more for each entry (`reach-tallied`). So `without-prefix` says what the pass strips.
-- Assumes nothing.
use mathlib.Core.Path.{◌≡◌, refl, sym, ap, ◌∙◌}
use mathlib.Core.Bool.{Bool, true, false, cond}
use mathlib.Core.List.{List, [], ◌∷◌, map}
use Prim.Native.Nat.{ℕ, zero, suc, ◌+◌, ◌≤◌, ◌<◌, Ordering}
use native.Mathlib.Omega.{arith}
use lib.Dec.{ltb, eqb, compare_is_eq}
use lib.ListN.{length}
use borrow.Author.Tests.{ltb-true, ltb-false, lt-ltb, le-ltb, ne_eqb, eqb-true}
use Rattle.rules.specs.Bytes.{order, same, starts}
use Rattle.rules.specs.Prefix.{Counted, prefixes, see, see_all, winner, reach, reached, four_fifths, strip, strip_winner, without_prefix}
use Rattle.rules.specs.Table.{tally, tallied, count_in, occurs}
use Rattle.rules.proofs.OrderLaws.{flip, order_eq, order_flip, rises-is, same_by}
use Rattle.rules.specs.Book.{Rising}
use Rattle.rules.proofs.TableLaws.{tally_cons, placed, count_none, tallied-count, tallied-rising}

-- ---- equal byte strings
pub same_self : (g : List ℕ) → same g g ≡ true
same_self g = same_by Ordering.eq g g ((order_eq g g).1 refl)

pub same_true : (g h : List ℕ) → same g h ≡ true → g ≡ h
unfolding same
same_true g h e = go (order g h) refl e
  where
    go : (o : Ordering) → order g h ≡ o → compare_is_eq o ≡ true → g ≡ h
    go Ordering.lt q t = let z : ◌≡◌ {A = ℕ} 0 1 = cc in absurd (omega arith)
    go Ordering.eq q t = (order_eq g h).0 q
    go Ordering.gt q t = let z : ◌≡◌ {A = ℕ} 0 1 = cc in absurd (omega arith)

pub same_turn : (g h : List ℕ) → same g h ≡ same h g
unfolding same
same_turn g h = go (order g h) refl
  where
    go : (o : Ordering) → order g h ≡ o → compare_is_eq (order g h) ≡ compare_is_eq (order h g)
    go Ordering.lt q = rw (order_flip g h, q)
    go Ordering.eq q = rw (order_flip g h, q)
    go Ordering.gt q = rw (order_flip g h, q)

-- ---- the list without those that are g
unfoldable pub others : List ℕ → List (List ℕ) → List (List ℕ)
others g [] = []
others g (h ∷ gs) = let more = others g gs in cond (same h g) more (h ∷ more)

others-length : (g : List ℕ) (gs : List (List ℕ)) → length (others g gs) ≤ length gs
unfolding others
others-length g [] = omega arith
others-length g (h ∷ gs) = go (same h g) (others-length g gs)
  where
    go : (t : Bool) → length (others g gs) ≤ length gs → length (cond t (others g gs) (h ∷ others g gs)) ≤ suc (length gs)
    go true l = omega arith
    go false l = omega arith

occurs-others : (g k : List ℕ) (gs : List (List ℕ)) → same g k ≡ false → occurs k (others g gs) ≡ occurs k gs
unfolding others occurs
occurs-others g k [] n = refl
occurs-others g k (h ∷ gs) n = go (same h g) refl (occurs-others g k gs n)
  where
    go : (t : Bool) → same h g ≡ t → occurs k (others g gs) ≡ occurs k gs →
        occurs k (cond t (others g gs) (h ∷ others g gs)) ≡ cond (same h k) 1 0 + occurs k gs
    go true e ih =
        let q = same_true h g e in
        rw (q, n) (ih ∙ omega arith)
    go false e ih = ap (λ (m : ℕ). cond (same h k) 1 0 + m) ih

occurs_gone : (g : List ℕ) (gs : List (List ℕ)) → occurs g (others g gs) ≡ 0
unfolding others occurs
occurs_gone g [] = refl
occurs_gone g (h ∷ gs) = go (same h g) refl (occurs_gone g gs)
  where
    go : (t : Bool) → same h g ≡ t → occurs g (others g gs) ≡ 0 → occurs g (cond t (others g gs) (h ∷ others g gs)) ≡ 0
    go true e ih = ih
    go false e ih = rw e (omega arith)

-- ---- what is stored
-- the first entry takes its own, and the others are seen by the rest
seen_cons : (g : List ℕ) (n : ℕ) (es : List Counted) (ps : List (List ℕ)) →
    see_all (record { bytes = g; count = n } ∷ es) ps ≡ record { bytes = g; count = n + occurs g ps } ∷ see_all es (others g ps)
unfolding see see_all occurs others
seen_cons g n es [] =
    let at : ℕ → List Counted = λ m. record { bytes = g; count = m } ∷ es in
    let l : n ≡ n + 0 = omega arith in
    ap at l
seen_cons g n es (p ∷ ps) = go (same g p) refl (seen_cons g (n + 1) es ps) (seen_cons g n (see es p) ps)
  where
    Seen : ℕ → List Counted → Type 0
    Seen m fs = see_all (record { bytes = g; count = m } ∷ fs) ps ≡ record { bytes = g; count = m + occurs g ps } ∷ see_all fs (others g ps)

    Goal : Bool → Bool → Type 0
    Goal t u =
        see_all (cond t (record { bytes = p; count = n + 1 } ∷ es) (record { bytes = g; count = n } ∷ see es p)) ps
        ≡ record { bytes = g; count = n + (cond u 1 0 + occurs g ps) } ∷ see_all es (cond u (others g ps) (p ∷ others g ps))

    go : (t : Bool) → same g p ≡ t → Seen (n + 1) es → Seen n (see es p) → Goal (same g p) (same p g)
    go true e more later =
        let q = same_true g p e in
        let l : n + 1 + occurs g ps ≡ n + (1 + occurs g ps) = omega arith in
        rw (← q, same_self g) (more ∙ rw l)
    go false e more later =
        let l : n + occurs g ps ≡ n + (0 + occurs g ps) = omega arith in
        rw (same_turn p g, e) (later ∙ rw l)

pub seen_first : (p : List ℕ) (ps : List (List ℕ)) →
    see_all [] (p ∷ ps) ≡ record { bytes = p; count = occurs p (p ∷ ps) + 1 } ∷ see_all [] (others p ps)
unfolding see see_all occurs
seen_first p ps =
    let l : 2 + occurs p ps ≡ 1 + occurs p ps + 1 = omega arith in
    seen_cons p 2 [] ps ∙ rw (same_self p, l)

-- ---- the winner
-- the first one with the highest number, b before the list
unfoldable pub first_most : (List ℕ → ℕ) → List ℕ → List (List ℕ) → List ℕ
first_most many b [] = b
first_most many b (p ∷ ps) = first_most many (cond (ltb (many b) (many p)) p b) ps

module _ (many : List ℕ → ℕ) where
  -- those that are no more than b do not count
  most-others : (g b : List ℕ) (ps : List (List ℕ)) → many g ≤ many b → first_most many b (others g ps) ≡ first_most many b ps
  unfolding first_most others
  most-others g b [] l = refl
  most-others g b (p ∷ ps) l = go (same p g) refl (ltb (many b) (many p)) refl (most-others g b ps l) (λ h. most-others g p ps h)
    where
      go : (t : Bool) → same p g ≡ t → (u : Bool) → ltb (many b) (many p) ≡ u →
          first_most many b (others g ps) ≡ first_most many b ps →
          (many g ≤ many p → first_most many p (others g ps) ≡ first_most many p ps) →
          first_most many b (cond t (others g ps) (p ∷ others g ps)) ≡ first_most many (cond u p b) ps
      go true e u f ih ih' =
          let q = same_true p g e in
          let k : ltb (many b) (many p) ≡ false = rw q (le-ltb (many b) (many g) l) in
          let r : u ≡ false = sym f ∙ k in
          rw r ih
      go false e true f ih ih' =
          let k = ltb-true (many b) (many p) f in
          ap (λ (x : Bool). first_most many (cond x p b) (others g ps)) f ∙ ih' (omega arith)
      go false e false f ih ih' = ap (λ (x : Bool). first_most many (cond x p b) (others g ps)) f ∙ ih

  ltb_more : (a b : ℕ) → ltb (a + 1) (b + 1) ≡ ltb a b
  ltb_more a b = go (ltb a b) refl
    where
      go : (t : Bool) → ltb a b ≡ t → ltb (a + 1) (b + 1) ≡ t
      go true e = let k = ltb-true a b e in lt-ltb (a + 1) (b + 1) (omega arith)
      go false e = let k = ltb-false a b e in le-ltb (a + 1) (b + 1) (omega arith)

  abbrev counted : List ℕ → Counted
  counted g = record { bytes = g; count = many g + 1 }

  -- the rest keeps the numbers
  rest-many : (p : List ℕ) (ps : List (List ℕ)) → ((q : List ℕ) → 0 < occurs q (p ∷ ps) → many q ≡ occurs q (p ∷ ps)) →
      (q : List ℕ) → 0 < occurs q (others p ps) → many q ≡ occurs q (others p ps)
  unfolding occurs
  rest-many p ps h q l = go (same p q) refl
    where
      go : (t : Bool) → same p q ≡ t → many q ≡ occurs q (others p ps)
      go true e =
          let r = same_true p q e in
          let z : occurs q (others p ps) ≡ 0 = rw r (occurs_gone q ps) in
          absurd (omega arith)
      go false e =
          let r = occurs-others p q ps e in
          let s : cond (same p q) 1 0 + occurs q ps ≡ occurs q ps = rw e (omega arith) in
          h q (omega arith) ∙ s ∙ sym r

  pub winner-from : (n : ℕ) (ps : List (List ℕ)) → length ps ≤ n → (b : List ℕ) →
      ((q : List ℕ) → 0 < occurs q ps → many q ≡ occurs q ps) → (winner (counted b) (see_all [] ps)).bytes ≡ first_most many b ps
  unfolding winner see_all first_most
  winner-from zero [] l b h = refl
  winner-from zero (p ∷ ps) l b h = absurd (omega arith)
  winner-from (suc n) [] l b h = refl
  winner-from (suc n) (p ∷ ps) l b h =
      let m : many p ≡ occurs p (p ∷ ps) = h p (unfold occurs in rw (same_self p) (omega arith)) in
      let rest : List Counted = see_all [] (others p ps) in
      let of : ℕ → List Counted = λ k. record { bytes = p; count = k + 1 } ∷ rest in
      ap (λ (es : List Counted). (winner (counted b) es).bytes) (seen_first p ps)
      ∙ ap (λ (k : ℕ). (winner (counted b) (of k)).bytes) (sym m)
      ∙ ap (λ (t : Bool). (winner (cond t (counted p) (counted b)) rest).bytes) (ltb_more (many b) (many p))
      ∙ go (ltb (many b) (many p)) refl (λ c. winner-from n (others p ps) (few p ps n l) c (rest-many p ps h))
    where
      few : (p : List ℕ) (ps : List (List ℕ)) (n : ℕ) → suc (length ps) ≤ suc n → length (others p ps) ≤ n
      few p ps n l = omega (arith, others-length p ps)

      go : (t : Bool) → ltb (many b) (many p) ≡ t →
          ((c : List ℕ) → (winner (counted c) (see_all [] (others p ps))).bytes ≡ first_most many c (others p ps)) →
          (winner (cond t (counted p) (counted b)) (see_all [] (others p ps))).bytes ≡ first_most many (cond t p b) ps
      go true e more = more p ∙ most-others p p ps (omega arith)
      go false e more = more b ∙ most-others p b ps (ltb-false (many b) (many p) e)

-- ---- the sum
module _ (p : List ℕ) where
  abbrev share : List ℕ → ℕ → ℕ
  share g n = cond (starts p g) n 0

  -- how much one more g adds to a table that has n of it
  abbrev added : ℕ → ℕ
  added n = cond (eqb n 0) 2 1

  -- how much n of it are
  abbrev whole : ℕ → ℕ
  whole n = cond (eqb n 0) 0 (n + 1)

  reached-tally : (g : List ℕ) (es : List Counted) → Rising es → reached p (tally g es) ≡ reached p es + share g (added (count_in es g))
  unfolding tally placed reached count_in
  reached-tally g [] r = omega arith
  reached-tally g (e ∷ es) r = rw (tally_cons g e es) (go (order g e.bytes) refl (reached-tally g es r.2))
    where
      Goal : Ordering → Type 0
      Goal o = reached p (placed o g e es) ≡ reached p (e ∷ es) + share g (added (count_in (e ∷ es) g))

      sum2 : (t : Bool) (c n : ℕ) → cond t (c + 1 + 1) 0 + n ≡ cond t (c + 1) 0 + n + cond t 1 0
      sum2 true c n = omega arith
      sum2 false c n = omega arith

      go : (o : Ordering) → order g e.bytes ≡ o → reached p (tally g es) ≡ reached p es + share g (added (count_in es g)) → Goal o
      go Ordering.lt q ih =
          let z : count_in (e ∷ es) g ≡ 0 = count_none g (e ∷ es) ((rises-is g e.bytes).1 q) r in
          rw z (omega arith)
      go Ordering.eq q ih =
          let b : g ≡ e.bytes = (order_eq g e.bytes).0 q in
          let y : same e.bytes g ≡ true = rw b (same_self e.bytes) in
          let z : eqb (e.count + count_in es g) 0 ≡ false = ne_eqb (e.count + count_in es g) 0 (λ k. omega (arith, r.0)) in
          rw (y, z, b) (sum2 (starts p e.bytes) e.count (reached p es))
      go Ordering.gt q ih =
          let y : same e.bytes g ≡ false = same_by Ordering.lt e.bytes g (order_flip g e.bytes ∙ ap flip q) in
          let z : 0 + count_in es g ≡ count_in es g = omega arith in
          rw (y, z) (omega arith)

  reached-others : (g : List ℕ) (ps : List (List ℕ)) →
      reached p (tallied ps) ≡ share g (whole (occurs g ps)) + reached p (tallied (others g ps))
  unfolding tallied others occurs reached
  reached-others g [] = go (starts p g)
    where
      go : (t : Bool) → 0 ≡ cond t 0 0 + 0
      go true = refl
      go false = refl
  reached-others g (h ∷ ps) = go (same h g) refl (reached-others g ps)
    where
      step : (q : List ℕ) (qs : List (List ℕ)) → reached p (tally q (tallied qs)) ≡ reached p (tallied qs) + share q (added (occurs q qs))
      step q qs = reached-tally q (tallied qs) (tallied-rising qs) ∙ rw (tallied-count q qs)

      joined : (t : Bool) (n r : ℕ) (u : Bool) → eqb n 0 ≡ u → cond t (cond u 0 (n + 1)) 0 + r + cond t (cond u 2 1) 0 ≡ cond t (1 + n + 1) 0 + r
      joined true n r true e = let z = eqb-true n 0 e in omega arith
      joined true n r false e = omega arith
      joined false n r u e = omega arith

      go : (t : Bool) → same h g ≡ t → reached p (tallied ps) ≡ share g (whole (occurs g ps)) + reached p (tallied (others g ps)) →
          reached p (tally h (tallied ps)) ≡
          share g (whole (cond t 1 0 + occurs g ps)) + reached p (tallied (cond t (others g ps) (h ∷ others g ps)))
      go true e ih =
          let q = same_true h g e in
          let n : eqb (1 + occurs g ps) 0 ≡ false = ne_eqb (1 + occurs g ps) 0 (λ k. omega arith) in
          step h ps
          ∙ rw (q, ih, n) (joined (starts p g) (occurs g ps) (reached p (tallied (others g ps))) (eqb (occurs g ps) 0) refl)
      go false e ih =
          let n : 0 + occurs g ps ≡ occurs g ps = omega arith in
          let o = occurs-others g h ps (same_turn g h ∙ e) in
          rw n (omega (arith, step h ps, step h (others g ps), ap (λ (k : ℕ). share h (added k)) o))

  pub reach-tallied : (n : ℕ) (ps : List (List ℕ)) → length ps ≤ n → reach p (see_all [] ps) ≡ reached p (tallied ps)
  unfolding reach see_all reached tallied
  reach-tallied zero [] l = refl
  reach-tallied zero (g ∷ ps) l = absurd (omega arith)
  reach-tallied (suc n) [] l = refl
  reach-tallied (suc n) (g ∷ ps) l =
      let few : length (others g ps) ≤ n = omega (arith, others-length g ps) in
      let own : others g (g ∷ ps) ≡ others g ps = unfold others in rw (same_self g) in
      let some : eqb (occurs g (g ∷ ps)) 0 ≡ false = unfold occurs in rw (same_self g) (ne_eqb (1 + occurs g ps) 0 (λ k. omega arith)) in
      let r : reached p (tally g (tallied ps)) ≡ share g (occurs g (g ∷ ps) + 1) + reached p (tallied (others g ps)) =
      reached-others g (g ∷ ps) ∙ rw (some, own) in
      rw (seen_first g ps, reach-tallied n (others g ps) few) (sym r)

-- ---- what the pass strips
pub without-none : (ls : List (List ℕ)) → prefixes ls ≡ [] → without_prefix ls ≡ ls
unfolding without_prefix see_all strip_winner
without-none ls e = rw e

pub without-prefix : (ls : List (List ℕ)) (p : List ℕ) (ps : List (List ℕ)) (w : List ℕ) → prefixes ls ≡ p ∷ ps →
    first_most (λ q. occurs q (p ∷ ps)) p ps ≡ w →
    without_prefix ls ≡ cond (ltb (reached w (tallied (p ∷ ps))) (four_fifths (length ls))) ls (map (strip w) ls)
unfolding without_prefix strip_winner
without-prefix ls p ps w e f =
    let many : List ℕ → ℕ = λ q. occurs q (p ∷ ps) in
    let rest : List Counted = see_all [] (others p ps) in
    let won : (winner (record { bytes = p; count = many p + 1 }) rest).bytes ≡ w =
    winner-from many (length (others p ps)) (others p ps) (omega arith) p (rest-many many p ps (λ q l. refl))
    ∙ most-others many p p ps (omega arith)
    ∙ f in
    let sum : reach w (record { bytes = p; count = many p + 1 } ∷ rest) ≡ reached w (tallied (p ∷ ps)) =
    rw seen_first at (reach-tallied w (length (p ∷ ps)) (p ∷ ps) (omega arith)) in
    rw (e, seen_first p ps, won, sum)
