-- `reach` meets its contract: a way that is shorter is kept, by label.
use Rattle.std.proofs.Common.{rules, ◌≡◌, ℕ, ◌≤◌, ◌^◌, ◌⊎◌, ℤ, ◌+ℤ◌, ◌≤ℤ◌, ◌<ℤ◌, pos, true, false, refl, sym, ap, ap₂, ◌∙◌, arith, get_or, set, bit_or, to_z-of_z, to_z, of_z, w64, SFits, inl, inr, ⊎_elim}
use Rattle.integers.proofs.Parts.{linear, parts, add, abs}
use Rattle.integers.proofs.Bits.{same, answer}
use Rattle.integers.specs.Words.{bit}
use Rattle.assignment.proofs.Counts.{differ}
use Rattle.placing.specs.declared.paths.Paths.{Paths}
use Rattle.placing.specs.Priced.{price}
use Rattle.placing.specs.Paths.{Near, Kept, Reached, Bounded}
use Rattle.placing.proofs.Reaching.{far_small, far_home, price_beyond, reached_not, reached_label, far_label, reached_home, waits_here, waits_other, bounded_waits, bounded_goal}
use Rattle.placing.proofs.paths.Paths.reach.Goals as goal
use Rattle.placing.proofs.paths.Paths.reach.Goals.{Start, After-at-known, After-lesser, After-from-label}

-- the label's price, and the sum
module _ (c : After-at-known) where
  abbrev p : Paths
  p = c.args.self.now

  abbrev z : ℤ
  z = c.args.way +ℤ price p.prices c.args.l

  fits : SFits w64 z
  fits = omega (linear, add c.args.way (price p.prices c.args.l), abs c.args.way, abs (price p.prices c.args.l), c.requires.2, c.requires.3)

  sum_is : to_z w64 (of_z w64 (to_z w64 (of_z w64 c.args.way) +ℤ to_z w64 (of_z w64 c.at-price.result))) ≡ z
  sum_is = ap (λ (y : ℤ). to_z w64 (of_z w64 y)) (ap₂ ◌+ℤ◌ (to_z-of_z c.ranges.way) (answer c.at-price.type_inv c.at-price.ensures)) ∙ to_z-of_z fits

  known_is : to_z w64 (of_z w64 c.at-known.result) ≡ get_or p.far c.args.l (pos 0)
  known_is = answer c.at-known.type_inv c.at-known.ensures

-- 255 has no price
module _ (c : Start) where
  abbrev q : Paths
  q = c.args.self.now

  last : 64 ≤ c.args.l → c.args.l ≡ 255
  last h = ⊎_elim (λ e. absurd (omega arith)) (λ e. e) c.requires.0

  alone : 64 ≤ c.args.l → c.args.way ≡ c.args.way +ℤ price q.prices c.args.l
  alone h =
      let e = price_beyond q.prices c.args.l (search rules) h in
      omega (linear, parts e, add c.args.way (price q.prices c.args.l))

  bound_here : to_z w64 (of_z w64 q.bound) ≡ q.bound
  bound_here = to_z-of_z {w = w64} {z = q.bound} (search rules)

  below_home : c.args.l ≡ 255 → q.bound ≤ℤ q.home
  below_home e = let h = c.requires.4.ends c.args.l (inr e) in omega (linear, parts (far_home q e))

abbrev same_rest : (p p' : Paths) → p'.prices ≡ p.prices → p'.nodes ≡ p.nodes → p'.labels ≡ p.labels → p'.step ≡ p.step → Kept p p'
same_rest p p' a b c d = record { prices = a; nodes = b; labels = c; step = d }

-- the less of the way that is known and the bound
module _ (c : After-lesser) where
  abbrev t : After-at-known
  t = (goal.at.After-lesser c).After-at-known

  bound_is : to_z w64 (of_z w64 (p t).bound) ≡ (p t).bound
  bound_is = to_z-of_z {w = w64} {z = (p t).bound} (search rules)

  less_is : to_z w64 (of_z w64 c.lesser.result) ≡ c.lesser.result
  less_is = same c.lesser.result c.lesser.type_inv

  within : c.lesser.result ≤ℤ z t → Near (p t) c.args.l (z t)
  within h = ⊎_elim
      (λ e. inl (omega (linear, parts e, parts (known_is t), parts (far_small (p t) c.if-l-lt64.true))))
      (λ e. inr (omega (linear, parts e, parts bound_is)))
      c.lesser.ensures.2

  shorter : z t <ℤ c.lesser.result → (z t <ℤ get_or (p t).far c.args.l (pos 0)) × (z t <ℤ (p t).bound)
  shorter h = (omega (linear, c.lesser.ensures.0, parts (known_is t)), omega (linear, c.lesser.ensures.1, parts bound_is))

-- the way to a label is shorter
module _ (c : After-from-label) where
  abbrev x : After-lesser
  x = (goal.at.After-from-label c).After-lesser

  abbrev a : Paths
  a = p (t x)

  abbrev d : ℤ
  d = z (t x)

  less : (d <ℤ get_or a.far c.args.l (pos 0)) × (d <ℤ a.bound)
  less = shorter x (omega (linear, parts (sum_is (t x)), parts (less_is x), c.if-far-lesser.true))

  module _ {p' : Paths} (kept : Kept a p') (ef : p'.far ≡ set a.far c.from-label.result (to_z w64 (of_z w64 (to_z w64 (of_z w64 c.args.way) +ℤ to_z w64 (of_z w64 c.at-price.result)))))
      (eb : p'.by ≡ set a.by c.from-label.result a.step) (eh : p'.home ≡ a.home) (ey : p'.home_by ≡ a.home_by) where
    far_set : p'.far ≡ set a.far c.args.l d
    far_set = ef ∙ ap₂ (λ (i : ℕ) (y : ℤ). set a.far i y) c.from-label.ensures (sum_is (t x))

    reached : p'.bound ≤ℤ a.bound → ((k : ℕ) → (k ≡ c.args.l → ⊥) → bit p'.waiting k ≡ bit a.waiting k) → (bit p'.waiting c.args.l ≡ true) ⊎ (p'.bound ≤ℤ d) → Reached a p' c.args.l (d)
    reached falls others waits = reached_label a p' kept falls c.if-l-lt64.true (search rules) (search rules) less.0
        far_set (eb ∙ ap (λ (i : ℕ). set a.by i a.step) c.from-label.ensures) others waits eh ey

    -- it is an end
    goes : bit c.args.free c.args.l ≡ true → p'.bound ≡ d → p'.goal ≡ c.args.l → p'.waiting ≡ a.waiting → Reached a p' c.args.l (d) × Bounded c.args.free p'
    goes b ez eg ew =
        let r = reached (omega (linear, parts ez, less.1)) (λ k d. ap (λ (w : ℕ). bit w k) ew) (inr (omega (linear, parts ez))) in
        (r, bounded_goal c.requires.4 r (far_label a p' c.if-l-lt64.true (search rules) far_set) (inl (c.if-l-lt64.true, b)) less.1 ez eg ew)

    -- it waits
    waits : bit c.args.free c.args.l ≡ false → p'.bound ≡ a.bound → p'.goal ≡ a.goal → p'.waiting ≡ bit_or a.waiting (2 ^ c.args.l) → Reached a p' c.args.l (d) × Bounded c.args.free p'
    waits b ez eg ew =
        let r = reached (omega (linear, parts ez)) (λ k d. ap (λ (w : ℕ). bit w k) ew ∙ waits_other a.waiting c.args.l k d) (inl (ap (λ (w : ℕ). bit w c.args.l) ew ∙ waits_here a.waiting c.args.l)) in
        (r, bounded_waits c.requires.4 r (λ x. ⊎_elim (λ (_, y). differ y b) (λ e. let h = c.if-l-lt64.true in omega arith) x) b ez eg ew)

pub returns-then-has : goal.returns-then-has
returns-then-has c =
    let y = (goal.at.returns-then-has c).After-from-label in
    goes y (same_rest (a y) _ refl refl refl refl) refl refl refl refl (sym c.has.ensures ∙ c.if-has.true) (sum_is (t (x y))) refl refl

pub returns-else-has : goal.returns-else-has
returns-else-has c =
    let y = (goal.at.returns-else-has c).After-from-label in
    waits y (same_rest (a y) _ refl refl refl refl) refl refl refl refl (sym c.has.ensures ∙ c.if-has.false) refl refl (ap (bit_or (a y).waiting) c.bit_of.ensures)

pub returns-else-far-lesser : goal.returns-else-far-lesser
returns-else-far-lesser c =
    let y = (goal.at.returns-else-far-lesser c).After-lesser in
    (reached_not (p (t y)) c.args.l (within y (omega (linear, parts (sum_is (t y)), parts (less_is y), c.if-far-lesser.false))), c.requires.4)

pub returns-then-way-self : goal.returns-then-way-self
returns-then-way-self c =
    let y = (goal.at.returns-then-way-self c).Start in
    let e = last y c.if-l-lt64.false in
    let w = to_z-of_z c.ranges.way ∙ alone y c.if-l-lt64.false in
    let h : (c.args.way +ℤ price (q y).prices c.args.l) <ℤ (q y).bound = omega (linear, parts w, parts (bound_here y), c.if-way-self.true) in
    let r = reached_home (q y) _ (same_rest (q y) _ refl refl refl refl) (omega (linear, parts w, h)) e (omega (linear, h, below_home y e)) refl refl refl (omega (linear, parts w)) w refl in
    (r, bounded_goal c.requires.4 r (far_home _ e ∙ w) (inr e) h w refl refl)

pub returns-else-way-self : goal.returns-else-way-self
returns-else-way-self c =
    let y = (goal.at.returns-else-way-self c).Start in
    let w = to_z-of_z c.ranges.way ∙ alone y c.if-l-lt64.false in
    (reached_not (q y) c.args.l (inr (omega (linear, parts w, parts (bound_here y), c.if-way-self.false))), c.requires.4)
