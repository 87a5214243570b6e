-- A run as its loop goes through it: some records are done, and the rest from here is the rest of the whole run.
-- Assumes nothing.
use Rattle.std.proofs.Common.{◌≡◌, ℕ, suc, ◌+◌, ◌*◌, ◌%◌, ◌<◌, ◌≤◌, cond, eqb, List, [], ◌∷◌, length, get_or, take, get_or-take, lit<, drop, sym, refl, ap, ◌∙◌, ap₂, inl, inr, arith, length-drop, drop-drop, eq-eqb, eqb-true, ne_eqb}
use lib.Seq.{drop-length}
use Rattle.instance.specs.Instance.{Instance}
use Rattle.instance.specs.Sheet.{instance_of}
use Rattle.instance.specs.Readable.{Proper}
use Rattle.instance.proofs.Readable as sheet
use Rattle.rules.specs.Costs.{Buffers}
use Rattle.rules.specs.Run.{Record, Outcome, refused, done, Ran, kind_of, records, step, run, run_list}
use Rattle.rules.specs.Calls.{lent_refusal, run_refusal, run_of}
use Rattle.rules.proofs.Calls.{run_refusal_by}
use borrow.Author.Tests.{eqb-false}
use Rattle.integers.proofs.Places.{by-test, if-true, if-false}
use Rattle.rules.proofs.Run.{Numbered, effect_number}
use Rattle.rules.proofs.Loops.{carry, carry_start, carry-done, carry-refused, carry_end, records_next}
use Rattle.messages.specs.Step.{Settled, settle, settled, settled_as, settled_by}
use Rattle.messages.specs.Turn.{Good}
use Rattle.messages.proofs.TurnLaws.{good_next, stuck_once}

-- what a run answers and leaves
abbrev pub ran_of : Buffers → ℕ → ℕ → ℕ → Ran
ran_of b finished stuck refusal = record { buffers = b; finished = finished; stuck = stuck; refusal = refusal }

-- ---- ahead of the records

module _ (s : List ℕ) (limit : ℕ) (b : Buffers) (l : List ℕ) where
  by : run_refusal s limit b l ≡ cond (eqb (lent_refusal s limit b) 0) (cond (eqb (length l % 5) 0) 0 11) (lent_refusal s limit b)
  by = run_refusal_by s limit b l

  -- what turns a run back before its first record: what is lent, or else the list
  pub run_unread : (lent_refusal s limit b ≡ 0 → ⊥) → lent_refusal s limit b ≡ run_refusal s limit b l
  run_unread n = sym (by ∙ if-false (cond (eqb (length l % 5) 0) 0 11) (lent_refusal s limit b) (ne_eqb (lent_refusal s limit b) 0 n))

  module _ (e : lent_refusal s limit b ≡ 0) where
    own : run_refusal s limit b l ≡ cond (eqb (length l % 5) 0) 0 11
    own = by ∙ if-true (cond (eqb (length l % 5) 0) 0 11) (lent_refusal s limit b) (eq-eqb (lent_refusal s limit b) 0 e)

    pub run_partial : (length l % 5 ≡ 0 → ⊥) → 11 ≡ run_refusal s limit b l
    run_partial n = sym (own ∙ if-false 0 11 (ne_eqb (length l % 5) 0 n))

    pub run_begins : length l % 5 ≡ 0 → 0 ≡ run_refusal s limit b l
    run_begins h = sym (own ∙ if-true 0 11 (eq-eqb (length l % 5) 0 h))

  -- turned back it alters and counts nothing
  pub run_refused : (k : ℕ) → k ≡ run_refusal s limit b l → (k ≡ 0 → ⊥) → ran_of b 0 0 k ≡ run_of s limit b l
  unfolding run_of
  run_refused k e n =
      ap (ran_of b 0 0) e ∙ sym (if-false (run_list (instance_of s) limit b l) (ran_of b 0 0 (run_refusal s limit b l)) (ap (λ (i : ℕ). eqb i 0) (sym e) ∙ ne_eqb k 0 n))

  module _ (e : 0 ≡ run_refusal s limit b l) where
    pub run_lent : lent_refusal s limit b ≡ 0
    run_lent = by-test (eqb (lent_refusal s limit b) 0) (λ t. eqb-true (lent_refusal s limit b) 0 t) (λ t. run_unread (eqb-false (lent_refusal s limit b) 0 t) ∙ sym e)

    pub run_whole : length l % 5 ≡ 0
    run_whole =
        by-test (eqb (length l % 5) 0) (λ t. eqb-true (length l % 5) 0 t)
        (λ t. let z : 11 ≡ 0 = run_partial run_lent (eqb-false (length l % 5) 0 t) ∙ sym e in absurd (omega arith))

    pub run_listed : run_list (instance_of s) limit b l ≡ run_of s limit b l
    unfolding run_of
    run_listed = sym (if-true (run_list (instance_of s) limit b l) (ran_of b 0 0 (run_refusal s limit b l)) (eq-eqb (run_refusal s limit b l) 0 (sym e)))

-- ---- the records

-- the record at the head of some bytes, as the rules have it
abbrev pub record_of : List ℕ → Record
record_of l = record { kind = kind_of (get_or l 0 0); node = get_or l 1 0; index = get_or l 2 0 + 256 * get_or l 3 0; share = get_or l 4 0 }

-- what five bytes leave, cut out of a list at a place
pub five_bytes : (I : Instance) (limit : ℕ) (b : Buffers) (l : List ℕ) (at : ℕ) → settled_by I limit b (take 5 (drop at l)) ≡ settled b (step I limit b (record_of (drop at l)))
five_bytes I limit b l at =
    let m = drop at l in
    let cut : (k : ℕ) → k < 5 → get_or (take 5 m) k 0 ≡ get_or m k 0 = λ k h. get_or-take 5 m k 0 h in
    (λ t. settled_as I limit b (kind_of (cut 0 (lit< tt) t)) (cut 1 (lit< tt) t) (cut 2 (lit< tt) t + 256 * cut 3 (lit< tt) t) (cut 4 (lit< tt) t))

pub record Going (s : List ℕ) (limit : ℕ) (l : List ℕ) (b₀ b : Buffers) (finished stuck : ℕ) : Type 0 where
  pub upto : 5 * finished ≤ length l
  pub whole : length l % 5 ≡ 0
  pub few : stuck ≤ finished
  pub good : Good s limit b
  pub rest : carry finished stuck (run (instance_of s) limit b (records (drop (5 * finished) l))) ≡ run_list (instance_of s) limit b₀ l

pub going_start : (s : List ℕ) (limit : ℕ) (l : List ℕ) (b : Buffers) → Good s limit b → length l % 5 ≡ 0 → Going s limit l b b 0 0
unfolding run_list
going_start s limit l b g e = record { upto = omega arith; whole = e; few = omega arith; good = g; rest = sym (carry_start (run (instance_of s) limit b (records l))) }

module _ {s : List ℕ} {limit : ℕ} {l : List ℕ} {b₀ b : Buffers} {finished stuck : ℕ} (g : Going s limit l b₀ b finished stuck) where
  abbrev I : Instance
  I = instance_of s

  abbrev at : ℕ
  at = 5 * finished

  proper : Proper I
  proper = (sheet.readable s g.good.readable).proper

  pub going_end : length l ≤ at → ran_of b finished stuck 0 ≡ run_list I limit b₀ l
  unfolding records
  going_end h = sym (carry_end I limit finished stuck b) ∙ ap (λ (m : List Record). carry finished stuck (run I limit b m)) (sym none) ∙ g.rest
    where
      none : records (drop at l) ≡ []
      none = let e : at ≡ length l = omega (arith, g.upto) in ap (λ (i : ℕ). records (drop i l)) e ∙ ap records (drop-length l)

  module _ (h : at < length l) where
    pub going_room : at + 5 ≤ length l
    going_room = omega (arith, g.whole)

    pub going_bytes : 5 ≤ length (drop at l)
    going_bytes = omega (arith, going_room, length-drop at l)

    next : records (drop at l) ≡ record_of (drop at l) ∷ records (drop (at + 5) l)
    next = records_next (drop at l) going_bytes ∙ ap (λ (m : List ℕ). record_of (drop at l) ∷ records m) (drop-drop 5 at l)

    -- the whole run by the record at hand and those after it
    split : carry finished stuck (run I limit b (record_of (drop at l) ∷ records (drop (at + 5) l))) ≡ run_list I limit b₀ l
    split = ap (λ (m : List Record). carry finished stuck (run I limit b m)) (sym next) ∙ g.rest

    module _ {b' : Buffers} {k number : ℕ} (e : settle b' k number ≡ settled b (step I limit b (record_of (drop at l)))) where
      -- a record that is refused ends the run
      pub going_refused : (number ≡ 0 → ⊥) → ran_of b' finished stuck number ≡ run_list I limit b₀ l
      going_refused n = go (step I limit b (record_of (drop at l))) refl e
        where
          go : (o : Outcome) → step I limit b (record_of (drop at l)) ≡ o → settle b' k number ≡ settled b o → ran_of b' finished stuck number ≡ run_list I limit b₀ l
          go (refused m) p q =
              ap₂ (λ (c : Buffers) (i : ℕ). ran_of c finished stuck i) (ap (λ (z : Settled). z.buffers) q) (ap (λ (z : Settled). z.refusal) q)
              ∙ sym (carry-refused I limit finished stuck b (record_of (drop at l)) (records (drop (at + 5) l)) p) ∙ split
          go (done c i) p q = absurd (n (ap (λ (z : Settled). z.refusal) q))

      pub going_few : k ≤ 1
      going_few = omega (arith, ap (λ (z : Settled). z.stuck) e, stuck_once g.good (kind_of (get_or (drop at l) 0 0)) (get_or (drop at l) 1 0) (get_or (drop at l) 2 0 + 256 * get_or (drop at l) 3 0) (get_or (drop at l) 4 0))

    -- a record that is done is followed by the next
    pub going_next : {b' : Buffers} {k number : ℕ} → settle b' k number ≡ settled b (step I limit b (record_of (drop at l))) → number ≡ 0 → Going s limit l b₀ b' (finished + 1) (stuck + k)
    going_next {b'} {k} {number} e n = record {
      upto = omega (arith, going_room);
      whole = g.whole;
      few = omega (arith, g.few, going_few e);
      good = good_next g.good (kind_of (get_or (drop at l) 0 0)) (get_or (drop at l) 1 0) (get_or (drop at l) 2 0 + 256 * get_or (drop at l) 3 0) (get_or (drop at l) 4 0) (zero ∙ e);
      rest = rw next_at (go (step I limit b (record_of (drop at l))) refl (zero ∙ e) (effect_number I proper limit b (kind_of (get_or (drop at l) 0 0)) (get_or (drop at l) 1 0) (get_or (drop at l) 2 0 + 256 * get_or (drop at l) 3 0) (get_or (drop at l) 4 0)));
    }
      where
        next_at : 5 * (finished + 1) ≡ at + 5
        next_at = omega arith

        zero : settle b' k 0 ≡ settle b' k number
        zero = ap (settle b' k) (sym n)

        go : (o : Outcome) → step I limit b (record_of (drop at l)) ≡ o → settle b' k 0 ≡ settled b o → Numbered I proper limit o
            → carry (finished + 1) (stuck + k) (run I limit b' (records (drop (at + 5) l))) ≡ run_list I limit b₀ l
        go (refused m) p q (inl r) = absurd (let z : 0 ≡ m = ap (λ (z : Settled). z.refusal) q in omega arith)
        go (refused m) p q (inr r) = absurd (let z : 0 ≡ m = ap (λ (z : Settled). z.refusal) q in omega arith)
        go (done c i) p q r =
            let f : finished + 1 ≡ suc finished = omega arith in
            (λ t. carry (f t) (stuck + (q t).stuck) (run I limit (q t).buffers (records (drop (at + 5) l))))
            ∙ sym (carry-done I limit finished stuck b (record_of (drop at l)) (records (drop (at + 5) l)) p) ∙ split
