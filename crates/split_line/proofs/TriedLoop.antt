-- The loop over the branches of a node that tries the lines behind each.
use Prim.Native.Nat.{ℕ, ◌+◌, ◌*◌, ◌-◌, ◌≤◌, ◌<◌}
use mathlib.Core.Path.{◌≡◌, refl, sym, ap, ◌∙◌}
use mathlib.Core.Bool.{Bool, true, false, cond, ◌&&◌, ◌||◌}
use mathlib.Core.List.{List, [], ◌∷◌, ◌++◌, map, flat_map}
use native.Mathlib.Omega.{arith}
use native.Mathlib.Decide.{ℕ_discrete, dec_lt}
use borrow.Author.Tests.{lt-ltb, le-ltb, eq-eqb, ne_eqb, leb-true}
use mir.Syntax.{w32}
use mir.Val.{Fits}
use lib.Dec.{leb, ltb, eqb}
use lib.ListN.{length, take, get_or}
use lib.Seq.{take_all}
use Rattle.std.specs.Prelude.{Option, Some, None, IfSome}
use mathlib.Core.Option.{none, some}
use Rattle.polygons.proofs.Booleans.{split_and}
use Rattle.polygons.proofs.ListLaws.{flat_map_append}
use Rattle.geometry.specs.declared.rect.Line.{Line}
use Rattle.geometry.specs.declared.rect.Line.TheVariants.{AtX, AtY}
use Rattle.geometry.specs.declared.rect.Rect.{Rect}
use Rattle.geometry.specs.Cells.{valid}
use Rattle.geometry.proofs.CellLaws.{valid_of}
use Rattle.tree.specs.Lists.{All, keep}
use Rattle.tree.specs.Space.{left, right}
use Rattle.plane.specs.Best.{better, scan}
use Rattle.plane.specs.Lines.{fits, fits_in, on_both, line_or}
use Rattle.plane.specs.Candidates.{Extent, extent_on, line_number, key, candidates, best_candidate}
use Rattle.plane.specs.Fanout.{fanout}
use Rattle.split_line.specs.declared.candidates.Candidate.{Candidate}
use Rattle.split_line.specs.declared.candidates.Counts.{Counts}
use Rattle.split_line.specs.Extents.{rect_extent, extents_in, ExtentList, counts_of, counts_fit, TriedLine, lines_behind}
use Rattle.split_line.specs.Tried.{candidate_of, precedes, better_of, tried, tried_all, tried_behind}
use Rattle.split_line.proofs.CandidateLoops.{rect_valid, extents_next}

-- one line tried
module _ (l : List Rect) (line : Line) (k : Counts) (e : k ≡ counts_of (extents_in l) line) (best : Option Candidate) (b : Bool) (g : b ≡ counts_fit k) where
  abbrev next : Candidate
  next = record { both = k.both; line = line }

  fits_is : b ≡ fits extent_on fanout (extents_in l) line
  unfolding counts_fit counts_of
  fits_is = g ∙ rw e

  next_is : candidate_of (extents_in l) line ≡ next
  unfolding candidate_of counts_of
  next_is = rw e

  pub no_fit : b ≡ false → best ≡ tried (extents_in l) best line
  unfolding tried
  no_fit h = rw (← fits_is, h)

  module _ (h : b ≡ true) where
    taken : tried (extents_in l) best line ≡ Some (better_of best next)
    unfolding tried
    taken = rw (← fits_is, h, next_is)

    pub try_none : best ≡ None → Some next ≡ tried (extents_in l) best line
    unfolding better_of
    try_none f = sym (taken ∙ rw f)

    module _ (first : Candidate) (f : best ≡ Some first) (p : Bool) (q : p ≡ precedes next first) where
      pub try_kept : p ≡ false → Some first ≡ tried (extents_in l) best line
      unfolding better_of
      try_kept z = sym (taken ∙ rw (f, ← q, z))

      pub try_first : p ≡ true → Some next ≡ tried (extents_in l) best line
      unfolding better_of
      try_first z = sym (taken ∙ rw (f, ← q, z))

-- the four lines behind one branch
module _ (l : List Rect) (v : ExtentList l) (r : Rect) (r_is : valid r ≡ true) where
  pub behind_fits_x : Fits w32 (r.llx + 1)
  behind_fits_x = let w = valid_of r r_is in omega arith

  pub behind_fits_y : Fits w32 (r.lly + 1)
  behind_fits_y = let w = valid_of r r_is in omega arith

  pub behind_llx : TriedLine l (AtX (r.llx + 1))
  behind_llx = let w = valid_of r r_is in record { list = v; small = omega arith }

  pub behind_urx : TriedLine l (AtX r.urx)
  behind_urx = let w = valid_of r r_is in record { list = v; small = omega arith }

  pub behind_lly : TriedLine l (AtY (r.lly + 1))
  behind_lly = let w = valid_of r r_is in record { list = v; small = omega arith }

  pub behind_ury : TriedLine l (AtY r.ury)
  behind_ury = let w = valid_of r r_is in record { list = v; small = omega arith }

  pub four_tried : (k k₁ k₂ k₃ k₄ : Option Candidate)
      → k₁ ≡ tried (extents_in l) k (AtX (r.llx + 1)) → k₂ ≡ tried (extents_in l) k₁ (AtX r.urx)
      → k₃ ≡ tried (extents_in l) k₂ (AtY (r.lly + 1)) → k₄ ≡ tried (extents_in l) k₃ (AtY r.ury)
      → k₄ ≡ tried_behind l r k
  unfolding tried_behind tried_all lines_behind
  four_tried k k₁ k₂ k₃ k₄ a b c d = rw (← a, ← b, ← c, ← d)

-- the lines behind a valid rectangle are the candidates of its extent
candidates_more : (es : List Extent) (r : Rect) → valid r ≡ true → candidates (es ++ (rect_extent r ∷ [])) ≡ candidates es ++ lines_behind r
unfolding candidates lines_behind rect_extent flat_map
candidates_more es r v =
    let w = valid_of r v in
    let a : r.urx - 1 + 1 ≡ r.urx = omega arith in
    let b : r.ury - 1 + 1 ≡ r.ury = omega arith in
    flat_map_append
    (λ (e : Extent). AtX (e.min_x + 1) ∷ AtX (e.max_x + 1) ∷ AtY (e.min_y + 1) ∷ AtY (e.max_y + 1) ∷ [])
    es
    (rect_extent r ∷ [])
    ∙ ap (λ k. candidates es ++ k) (λ i. AtX (r.llx + 1) ∷ AtX (a i) ∷ AtY (r.lly + 1) ∷ AtY (b i) ∷ [])

tried_append : (es : List Extent) (o : Option Candidate) (a b : List Line) → tried_all es o (a ++ b) ≡ tried_all es (tried_all es o a) b
unfolding tried_all
tried_append es o [] b = refl
tried_append es o (x ∷ a) b = tried_append es (tried es o x) a b

-- a line that fits has entries right of it, so it is on the grid
right_small : (line : Line) (rs : List Rect) → All (λ r. valid r ≡ true) rs → 1 ≤ length (keep (extent_on (right line)) (map rect_extent rs)) → line_number line < 131072
unfolding keep All rect_extent
right_small line [] a p = absurd (omega arith)
right_small line (r ∷ rs) a p = go (extent_on (right line) (rect_extent r)) refl (right_small line rs a.1) p
  where
    here : (line : Line) → extent_on (right line) (rect_extent r) ≡ true → line_number line < 131072
    here (AtX l) e = let w = valid_of r a.0 in let i = leb-true l (r.urx - 1) e in omega arith
    here (AtY l) e = let w = valid_of r a.0 in let i = leb-true l (r.ury - 1) e in omega arith

    go : (b : Bool) → extent_on (right line) (rect_extent r) ≡ b → (1 ≤ length (keep (extent_on (right line)) (map rect_extent rs)) → line_number line < 131072) → 1 ≤ length (cond b (rect_extent r ∷ keep (extent_on (right line)) (map rect_extent rs)) (keep (extent_on (right line)) (map rect_extent rs))) → line_number line < 131072
    go true e rest p = here line e
    go false e rest p = rest p

module _ (l : List Rect) (v : ExtentList l) where
  abbrev es : List Extent
  es = extents_in l

  fits_small : (line : Line) → fits extent_on fanout es line ≡ true → line_number line < 131072
  unfolding extents_in
  fits_small line f =
      let a = split_and (fits_in fanout (length (keep (extent_on (left line)) es))) (fits_in fanout (length (keep (extent_on (right line)) es))) f in
      let b = split_and (leb 1 (length (keep (extent_on (right line)) es))) (leb (length (keep (extent_on (right line)) es)) fanout) a.1 in
      right_small line l v.each (leb-true 1 (length (keep (extent_on (right line)) es)) b.0)

  -- the candidate of what the scan found
  abbrev found : mathlib.Core.Option.Option Line → Option Candidate
  found none = None
  found (some x) = Some (candidate_of es x)

  abbrev Small : mathlib.Core.Option.Option Line → Type 0
  Small none = Unit {0}
  Small (some x) = line_number x < 131072

  -- fewest on both sides, ties to the smaller number: it is the smaller key
  order_key : (a b x y : ℕ) → x < 131072 → y < 131072 → (ltb a b || (eqb a b && ltb x y)) ≡ ltb (a * 131072 + x) (b * 131072 + y)
  order_key a b x y h k = go (dec_lt a b) (ℕ_discrete a b) (dec_lt x y)
    where
      go : Dec (a < b) → Dec (a ≡ b) → Dec (x < y) → (ltb a b || (eqb a b && ltb x y)) ≡ ltb (a * 131072 + x) (b * 131072 + y)
      go (yes p) q r = rw (lt-ltb a b p, lt-ltb (a * 131072 + x) (b * 131072 + y) (omega arith))
      go (no p) (yes q) (yes r) = rw (le-ltb a b (omega arith), eq-eqb a b q, lt-ltb x y r, lt-ltb (a * 131072 + x) (b * 131072 + y) (omega arith))
      go (no p) (yes q) (no r) = rw (le-ltb a b (omega arith), eq-eqb a b q, le-ltb x y (omega arith), le-ltb (a * 131072 + x) (b * 131072 + y) (omega arith))
      go (no p) (no q) r = let g : b < a = above p q in rw (le-ltb a b (omega arith), ne_eqb a b q, le-ltb (a * 131072 + x) (b * 131072 + y) (omega arith))
        where
          above : (a < b → ⊥) → (a ≡ b → ⊥) → b < a
          above p q = omega arith

  precedes_key : (x y : Line) → line_number x < 131072 → line_number y < 131072 → precedes (candidate_of es x) (candidate_of es y) ≡ ltb (key es x) (key es y)
  unfolding precedes candidate_of
  precedes_key x y h k = order_key (on_both extent_on es x) (on_both extent_on es y) (line_number x) (line_number y) h k

  -- one line more: the loop and the scan agree
  step : (o : mathlib.Core.Option.Option Line) (x : Line) → Small o
      → tried es (found o) x ≡ found (cond (fits extent_on fanout es x) (better (fits extent_on fanout es) (key es) o x) o)
  unfolding tried better_of
  step o x h = go (fits extent_on fanout es x) refl o h
    where
      chosen : (b : Bool) (x y : Line) → Some (cond b (candidate_of es x) (candidate_of es y)) ≡ found (cond b (some x) (some y))
      chosen true x y = refl
      chosen false x y = refl

      go : (b : Bool) → fits extent_on fanout es x ≡ b → (o : mathlib.Core.Option.Option Line) → Small o → cond b (Some (better_of (found o) (candidate_of es x))) (found o) ≡ found (cond b (better (fits extent_on fanout es) (key es) o x) o)
      go false e o h = refl
      go true e none h = refl
      go true e (some y) h = rw (precedes_key x y (fits_small x e) h) (chosen (ltb (key es x) (key es y)) x y)

  small_step : (o : mathlib.Core.Option.Option Line) (x : Line) → Small o → Small (cond (fits extent_on fanout es x) (better (fits extent_on fanout es) (key es) o x) o)
  small_step o x h = go (fits extent_on fanout es x) refl o h
    where
      go : (b : Bool) → fits extent_on fanout es x ≡ b → (o : mathlib.Core.Option.Option Line) → Small o → Small (cond b (better (fits extent_on fanout es) (key es) o x) o)
      go false e o h = h
      go true e none h = fits_small x e
      go true e (some y) h = side (ltb (key es x) (key es y))
        where
          side : (b : Bool) → Small (cond b (some x) (some y))
          side true = fits_small x e
          side false = h

  scan_tried : (ls : List Line) (o : mathlib.Core.Option.Option Line) → Small o → tried_all es (found o) ls ≡ found (scan (fits extent_on fanout es) (key es) o ls)
  unfolding tried_all scan
  scan_tried [] o h = refl
  scan_tried (x ∷ ls) o h = ap (λ b. tried_all es b ls) (step o x h) ∙ scan_tried ls _ (small_step o x h)

-- the line of the best candidate
abbrev line_of : Option Candidate → Line
line_of None = AtX 0
line_of (Some first) = first.line

found_line : (l : List Rect) (v : ExtentList l) (o : mathlib.Core.Option.Option Line) → line_of (found l v o) ≡ line_or o
unfolding candidate_of
found_line l v none = refl
found_line l v (some x) = refl

-- Before the i-th branch: the best of the lines behind those before it.
pub record AtBest (l : List Rect) (i : ℕ) (best : Option Candidate) : Type 0 where
  pub list : ExtentList l
  pub small : IfSome best (λ b. line_number b.line ≤ 131072)
  pub so_far : best ≡ tried_all (extents_in l) None (candidates (extents_in (take i l)))

pub best_start : (l : List Rect) → ExtentList l → AtBest l 0 None
unfolding tried_all extents_in candidates flat_map
best_start l v = record { list = v; small = tt; so_far = refl }

module _ (l : List Rect) (i : ℕ) (best : Option Candidate) (a : AtBest l i best) where
  pub best_again : (d : Rect) (best' : Option Candidate) → i < length l → best' ≡ tried_behind l (get_or l i d) best → IfSome best' (λ b. line_number b.line ≤ 131072) → AtBest l (i + 1) best'
  unfolding tried_behind
  best_again d best' h e s = record {
    list = a.list;
    small = s;
    so_far =
        let r = get_or l i d in
        e ∙ ap (λ q. tried_all (extents_in l) q (lines_behind r)) a.so_far
        ∙ sym (ap (λ q. tried_all (extents_in l) None (candidates q)) (extents_next l i d h)
        ∙ ap (λ q. tried_all (extents_in l) None q) (candidates_more (extents_in (take i l)) r (rect_valid l i d a.list h))
        ∙ tried_append (extents_in l) None (candidates (extents_in (take i l))) (lines_behind r));
  }

  module _ (h : length l ≤ i) where
    best_is : line_of best ≡ best_candidate fanout (extents_in l)
    unfolding best_candidate
    best_is =
        ap line_of (a.so_far ∙ ap (λ q. tried_all (extents_in l) None (candidates (extents_in q))) (take_all i l h) ∙ scan_tried l a.list (candidates (extents_in l)) none tt)
        ∙ found_line l a.list (scan (fits extent_on fanout (extents_in l)) (key (extents_in l)) none (candidates (extents_in l)))

    pub best_found : (first : Candidate) → best ≡ Some first → first.line ≡ best_candidate fanout (extents_in l)
    best_found first e = sym (ap line_of e) ∙ best_is

    pub best_none : best ≡ None → AtX 0 ≡ best_candidate fanout (extents_in l)
    best_none e = sym (ap line_of e) ∙ best_is
