-- `raise` meets its contract: label by label.
use Rattle.std.proofs.Common.{rules, ◌≡◌, ℕ, ◌+◌, ◌<◌, ℤ, ◌+ℤ◌, ◌-ℤ◌, refl, sym, ap, ap₂, ◌∙◌, arith, pos, w64, SFits, to_z, of_z, to_z-of_z, List, get_or}
use Rattle.integers.proofs.Bits.{answer}
use Rattle.integers.proofs.Parts.{linear, abs}
use Rattle.placing.specs.declared.paths.Paths.{Paths}
use Rattle.placing.specs.Words.{entry}
use Rattle.placing.specs.Priced.{price}
use Rattle.placing.specs.Paths.{far_of}
use Rattle.placing.proofs.Reaching.{far_small}
use Rattle.placing.proofs.Raising.{raised_none, price_still, raised_more}
use Rattle.placing.proofs.paths.Paths.raise.Goals as goal
use Rattle.placing.proofs.paths.Paths.raise.Goals.{In-loop-i, After-at-far}

-- the label of a turn
module _ (c : In-loop-i) where
  abbrev p : Paths
  p = c.args.self.now

  abbrev l : ℕ
  l = entry p.labels c.loop-i.i

  label_is : entry c.loop-i.self.labels c.loop-i.i ≡ l
  label_is = ap (λ (t : List ℕ). entry t c.loop-i.i) c.loop-i.invariant.stays.labels

  inside : (0 < c.loop-i.i) × (c.loop-i.i < p.step + 1)
  inside = omega (arith, c.loop-i.auto, c.loop-i-test.true)

  small : entry c.loop-i.self.labels c.loop-i.i < 64
  small = rw label_is (c.requires.1.small c.loop-i.i inside.0 (omega (arith, inside.1)))

module _ (c : After-at-far) where
  abbrev q : In-loop-i
  q = (goal.at.After-at-far c).In-loop-i

  abbrev z : ℤ
  z = far_of (p q) c.args.end

  abbrev i : ℕ
  i = c.loop-i.i

  far_is : to_z w64 (of_z w64 c.at-far.result) ≡ far_of (p q) (l q)
  far_is =
      let s = c.loop-i.invariant.stays in
      answer c.at-far.type_inv (c.at-far.ensures ∙ ap₂ (λ (t : List ℤ) (k : ℕ). get_or t k (pos 0)) s.far (label_is q) ∙ sym (far_small (p q) (c.requires.1.small i (inside q).0 (omega (arith, (inside q).1)))))

  price_is : to_z w64 (of_z w64 c.at-price.result) ≡ price (p q).prices (l q)
  price_is = answer c.at-price.type_inv (c.at-price.ensures ∙ ap (price c.loop-i.self.prices) (label_is q) ∙ price_still c.requires.1 c.loop-i.invariant (inside q).0 (inside q).1)

  d_fits : SFits w64 (z -ℤ far_of (p q) (l q))
  d_fits = let d = z -ℤ far_of (p q) (l q) in omega (linear, abs d, c.requires.1.apart i (inside q).0 (omega (arith, (inside q).1)))

  r_fits : SFits w64 (price (p q).prices (l q) +ℤ (z -ℤ far_of (p q) (l q)))
  r_fits = let d = price (p q).prices (l q) +ℤ (z -ℤ far_of (p q) (l q)) in omega (linear, abs d, c.requires.1.fits i (inside q).0 (omega (arith, (inside q).1)))

  read : to_z w64 (of_z w64 c.way_to-whole.result) -ℤ to_z w64 (of_z w64 c.at-far.result) ≡ z -ℤ far_of (p q) (l q)
  read = ap₂ ◌-ℤ◌ (answer c.way_to-whole.type_inv c.way_to-whole.ensures) far_is

  read_r : to_z w64 (of_z w64 c.at-price.result) +ℤ to_z w64 (of_z w64 (to_z w64 (of_z w64 c.way_to-whole.result) -ℤ to_z w64 (of_z w64 c.at-far.result))) ≡ price (p q).prices (l q) +ℤ (z -ℤ far_of (p q) (l q))
  read_r = ap₂ ◌+ℤ◌ price_is (ap (λ (y : ℤ). to_z w64 (of_z w64 y)) read ∙ to_z-of_z d_fits)

pub loop-i-init : goal.loop-i-init
loop-i-init c = raised_none _ _ (search rules)

pub overflow_sub-raised : goal.overflow_sub-raised
overflow_sub-raised c = let t = (goal.at.overflow_sub-raised c).After-at-far in rw (read t) (d_fits t)

pub overflow_add-raised : goal.overflow_add-raised
overflow_add-raised c = let t = (goal.at.overflow_add-raised c).After-at-far in rw (read_r t) (r_fits t)

pub at-price-requires : goal.at-price-requires
at-price-requires c = small (goal.at.at-price-requires c).In-loop-i

pub loop-i-preserved : goal.loop-i-preserved
loop-i-preserved c =
    let t = (goal.at.loop-i-preserved c).After-at-far in
    raised_more c.requires.1 c.loop-i.invariant (inside (q t)).0 (inside (q t)).1 {x = c.from.result} (c.from.ensures ∙ label_is (q t)) (ap (λ (y : ℤ). to_z w64 (of_z w64 y)) (read_r t) ∙ to_z-of_z (r_fits t)) refl
    (record { far = refl; by = refl; labels = refl; nodes = refl; step = refl; home = refl; home_by = refl })
