-- The incumbent's laws over plain values: bytes that mean none, labels that are taken, sums of prices, and what replaces what.
-- Assumes nothing.
use Rattle.std.proofs.Common.{◌≡◌, ℕ, ◌+◌, ◌*◌, ◌<◌, ◌≤◌, Bool, true, false, cond, not, ◌&&◌, ◌||◌, eqb, ltb, List, [], ◌∷◌, length, get_or, set, replicate, ℤ, pos, ◌+ℤ◌, sym, refl, ap, ◌∙◌, ap₂, arith, le-ltb, lt-ltb}
use lib.Signed.{lt_z}
use Rattle.integers.specs.Places.{every, tabulate, total}
use Rattle.integers.specs.Checks.{below}
use Rattle.integers.proofs.Parts.{linear, add}
use Rattle.integers.proofs.Places.{if-true, if-false, get_d_tabulate}
use Rattle.integers.proofs.Totals.{some_zero}
use Rattle.integers.proofs.Checks.{Tested, tested_none, tested_more, tested_all, below_fails}
use Rattle.instance.specs.Instance.{Instance, exclusive, cell}
use Rattle.instance.specs.Sheet.{instance_of}
use Rattle.rules.specs.Costs.{Buffers, none_kept, prices, position, chosen, chosen_cell, paid, cost_of, price_of, Labelling}
use Rattle.rules.specs.Rounding.{free, adopt}
use Rattle.rules.specs.Matchings.{is_matching}
use Rattle.rules.specs.Calls.{incumbent_ok}
use Rattle.rules.proofs.Matchings.{is_matching_lem}
use Rattle.messages.specs.Incumbent.{replaces, adopted_of}
use Rattle.instance.specs.declared.sheet.Sheet.{Sheet}
use Rattle.instance.proofs.Sheets as sheet
use Rattle.messages.proofs.UnusedLaws.{unused, free_is, untaken_none, untaken_more}

-- ---- bytes that mean none

pub none_empty : (x : List ℕ) → length x ≡ 0 → false ≡ none_kept x
unfolding none_kept
none_empty [] e = refl
none_empty (k ∷ x) e = absurd (omega arith)

pub none_some : (x : List ℕ) → (length x ≡ 0 → ⊥) → every (eqb 255) x ≡ none_kept x
unfolding none_kept
none_some [] d = absurd (d refl)
none_some (k ∷ x) d = refl

-- ---- places and cells as the code finds them

module _ (q : Sheet) (x : List ℕ) where
  abbrev I : Instance
  I = instance_of q.bytes.now

  module _ {u : ℕ} (h : u < q.nodes) where
    pub place_is : get_or q.starts u 0 + get_or x u 0 ≡ chosen I x u
    unfolding chosen
    place_is = ap (λ (z : ℕ). z + get_or x u 0) (sheet.start_is q h)

    pub place_in : get_or x u 0 < I.degree u → get_or q.starts u 0 + get_or x u 0 < q.positions
    place_in g = omega (arith, sheet.start_is q h, sheet.row_here q h)

  pub cell_is : {e : ℕ} → e < q.edges → {a c d : ℕ} → a ≡ I.low e → c ≡ I.high e → d ≡ I.degree c
      → get_or q.tables e 0 + (d * get_or x a 0 + get_or x c 0) ≡ chosen_cell I x e
  unfolding chosen_cell cell
  cell_is h p r z = rw (z, p, r, sheet.table_is q h)

-- ---- a position for each node, whose label is 255 or no lower node's

module _ (J : Instance) (x : List ℕ) where
  -- whether u passes
  abbrev pub ok_at : ℕ → Bool
  ok_at u = ltb (position x u) (J.degree u) && free J x u (position x u)

  -- after u nodes
  pub record MatchTurn (n : ℕ) (untaken : List Bool) (u : ℕ) : Type 0 where
    pub tested : Tested ok_at n u
    pub labels : untaken ≡ tabulate 256 (unused J x u)

  pub match_none : (n : ℕ) → MatchTurn n (replicate 256 true) 0
  match_none n = record { tested = tested_none ok_at n; labels = untaken_none J x }

  pub match_over : (u : ℕ) → J.degree u ≤ position x u → ok_at u ≡ false
  match_over u h = rw (le-ltb (position x u) (J.degree u) h)

  module _ {n : ℕ} {untaken : List Bool} {u : ℕ} (t : MatchTurn n untaken u) {l : ℕ} (e : l ≡ J.label (chosen J x u)) (small : l < 256) (g : position x u < J.degree u) where
    -- whether the label of u is untaken
    read : ok_at u ≡ get_or untaken l false
    unfolding chosen
    read =
        rw (lt-ltb (position x u) (J.degree u) g)
        (free_is J x u (position x u) ∙ sym (ap (λ (m : List Bool). get_or m l false) t.labels ∙ get_d_tabulate 256 (unused J x u) l false small ∙ ap (unused J x u) e))

    pub match_taken : get_or untaken l false ≡ false → ok_at u ≡ false
    match_taken q = read ∙ q

    pub match_more : u < n → get_or untaken l false ≡ true → {once : Bool} → once ≡ exclusive l → MatchTurn n (set untaken l (not once)) (u + 1)
    match_more h q o = record {
      tested = tested_more t.tested h (read ∙ q);
      labels = ap₂ (λ (b : List Bool) (v : Bool). set b l (not v)) t.labels o ∙ untaken_more J x x u (λ w _. refl) l e;
    }

  module _ {n : ℕ} (q : n ≡ J.node_count) where
    pub match_bad : (u : ℕ) → u < n → ok_at u ≡ false → false ≡ is_matching J x
    unfolding is_matching
    match_bad u h e = sym (ap (λ (k : ℕ). below k ok_at) (sym q) ∙ below_fails n ok_at u h e)

    pub match_done : {untaken : List Bool} {u : ℕ} → MatchTurn n untaken u → n ≤ u → true ≡ is_matching J x
    unfolding is_matching
    match_done t h = sym (ap (λ (k : ℕ). below k ok_at) (sym q) ∙ tested_all t.tested h)

-- ---- what replaces the incumbent

module _ (J : Instance) where
  pub adopt_is : (x : List ℕ) (b : Buffers) → adopt J x b ≡ record { nodes = b.nodes; labels = b.labels; edges = b.edges; incumbent = adopted_of J x b.incumbent }
  unfolding adopt adopted_of replaces
  adopt_is x b = go (none_kept b.incumbent || lt_z (price_of J x) (price_of J b.incumbent))
    where
      go : (t : Bool) → cond t (record { nodes = b.nodes; labels = b.labels; edges = b.edges; incumbent = x }) b
          ≡ record { nodes = b.nodes; labels = b.labels; edges = b.edges; incumbent = cond t x b.incumbent }
      go true = refl
      go false = refl

  -- one that is kept is a labelling
  pub kept_labelling : {x : List ℕ} → length x ≡ J.node_count → incumbent_ok J x ≡ true → none_kept x ≡ false → Labelling J x
  unfolding incumbent_ok none_kept
  kept_labelling {x = []} z e k = record { size = z; within = λ u h. absurd (omega arith) }
  kept_labelling {x = a ∷ x} z e k = (is_matching_lem J z (rw k at e)).labelling

  pub replaces_none : (x old : List ℕ) → none_kept old ≡ true → true ≡ replaces J x old
  unfolding replaces
  replaces_none x old e = rw e

  pub replaces_kept : (x old : List ℕ) → none_kept old ≡ false → lt_z (price_of J x) (price_of J old) ≡ replaces J x old
  unfolding replaces
  replaces_kept x old e = rw e

  pub adopted_new : (x old : List ℕ) → replaces J x old ≡ true → x ≡ adopted_of J x old
  unfolding adopted_of
  adopted_new x old e = sym (if-true x old e)

  pub adopted_old : (x old : List ℕ) → replaces J x old ≡ false → old ≡ adopted_of J x old
  unfolding adopted_of
  adopted_old x old e = sym (if-false x old e)

  -- a price by its two parts
  pub price_parts : (x : List ℕ) {a b : ℤ} → a ≡ total J.node_count (λ u. J.node_price (chosen J x u)) → b ≡ total J.edge_count (λ e. J.edge_price (chosen_cell J x e))
      → a +ℤ b ≡ price_of J x
  unfolding cost_of
  price_parts x {a} {b} p q =
      let m = total J.node_count (λ u. J.node_price (chosen J x u)) in
      let z : m +ℤ total J.node_count (λ u. paid J (prices J) (chosen J x u)) ≡ m = rw (some_zero J.node_count (λ u. exclusive (J.label (chosen J x u)))) (omega (linear, add m (pos 0))) in
      ap₂ ◌+ℤ◌ (p ∙ sym z) q
