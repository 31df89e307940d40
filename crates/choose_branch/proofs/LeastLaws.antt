-- What the scan for the least extra area finds: the first of the least, first by branch and then by rectangle.
use Prim.Native.Nat.{ℕ, suc, ◌+◌, ◌≤◌, ◌<◌}
use mathlib.Core.Path.{◌≡◌, refl, ap, ◌∙◌}
use mathlib.Core.Bool.{Bool, true, false}
use mathlib.Core.List.{List, [], ◌∷◌, ◌++◌}
use native.Mathlib.Omega.{arith}
use borrow.Author.Tests.{ltb-true, ltb-false}
use lib.Dec.{ltb}
use lib.ListN.{length}
use Rattle.geometry.specs.declared.rect.Cell.{Cell}
use Rattle.geometry.specs.declared.rect.Rect.{Rect}
use Rattle.tree.specs.Lists.{All}
use Rattle.tree.proofs.Lists.{all_append, all_map}
use Rattle.choose_branch.specs.declared.least.Least.{Least}
use Rattle.choose_branch.specs.Least.{extra_in, lesser, least_in, least_from, alone_from, all_cells, start_at, least_all}
use Rattle.choose_branch.proofs.AloneLaws.{alone_reached}

-- every rectangle has at least, or more than, this extra area
abbrev pub AtLeast : (Rect → ℕ) → ℕ → List Rect → Type 0
AtLeast extra x l = All (λ r. x ≤ extra r) l

abbrev pub More : (Rect → ℕ) → ℕ → List Rect → Type 0
More extra x l = All (λ r. x < extra r) l

-- The first of the least of a list, with an extra area below a limit.
pub record FirstIn (extra : Rect → ℕ) (limit : ℕ) (l : List Rect) : Type 0 where
  pub left : List Rect
  pub at : Rect
  pub right : List Rect
  pub list : l ≡ left ++ (at ∷ right)
  pub less : extra at < limit
  pub left_more : More extra (extra at) left
  pub right_least : AtLeast extra (extra at) right

-- The first of the least of some polygons, with an extra area below a limit.
pub record FirstOf (c : Cell) (limit : ℕ) (ps : List (List Rect)) : Type 0 where
  pub before : List (List Rect)
  pub polygon : List Rect
  pub inside : FirstIn (extra_in polygon c) limit polygon
  pub after : List (List Rect)
  pub row : ps ≡ before ++ (polygon ∷ after)
  pub before_more : All (λ q. More (extra_in q c) (extra_in polygon c inside.at) q) before
  pub after_least : All (λ q. AtLeast (extra_in q c) (extra_in polygon c inside.at) q) after

-- A scan found nothing below its start, or the first of the least.
pub data Scanned (extra : Rect → ℕ) (branch i : ℕ) (best : Least) (l : List Rect) : Type 0 where
  kept : AtLeast extra best.extra l → least_in extra branch i best l ≡ best → Scanned extra branch i best l
  took : (f : FirstIn extra best.extra l) → least_in extra branch i best l ≡ record { branch = branch; rect = i + length f.left; extra = extra f.at }
      → Scanned extra branch i best l

pub data ScannedAll (c : Cell) (i : ℕ) (best : Least) (ps : List (List Rect)) : Type 0 where
  kept : All (λ q. AtLeast (extra_in q c) best.extra q) ps → least_from c i best ps ≡ best → ScannedAll c i best ps
  took : (f : FirstOf c best.extra ps)
      → least_from c i best ps ≡ record { branch = i + length f.before; rect = length f.inside.left; extra = extra_in f.polygon c f.inside.at }
      → ScannedAll c i best ps

module _ (extra : Rect → ℕ) (branch : ℕ) where
  scan_lesser : (i : ℕ) (best : Least) (r : Rect) (l : List Rect) → extra r < best.extra → least_in extra branch i best (r ∷ l) ≡ least_in extra branch (i + 1) (record { branch = branch; rect = i; extra = extra r }) l
      → Scanned extra branch (i + 1) (record { branch = branch; rect = i; extra = extra r }) l → Scanned extra branch i best (r ∷ l)
  unfolding All
  scan_lesser i best r l h e (kept a q) =
      let z : i ≡ i + 0 = omega arith in
      took (record { left = []; at = r; right = l; list = refl; less = h; left_more = tt; right_least = a })
      (e ∙ q ∙ ap (λ j. record { branch = branch; rect = j; extra = extra r }) z)
  scan_lesser i best r l h e (took f q) =
      let k = f.less in
      let z : i + 1 + length f.left ≡ i + suc (length f.left) = omega arith in
      took (record { left = r ∷ f.left; at = f.at; right = f.right; list = ap (λ x. r ∷ x) f.list; less = omega arith; left_more = (k, f.left_more); right_least = f.right_least })
      (e ∙ q ∙ ap (λ j. record { branch = branch; rect = j; extra = extra f.at }) z)

  scan_same : (i : ℕ) (best : Least) (r : Rect) (l : List Rect) → best.extra ≤ extra r → least_in extra branch i best (r ∷ l) ≡ least_in extra branch (i + 1) best l
      → Scanned extra branch (i + 1) best l → Scanned extra branch i best (r ∷ l)
  unfolding All
  scan_same i best r l h e (kept a q) = kept (h, a) (e ∙ q)
  scan_same i best r l h e (took f q) =
      let k = f.less in
      let z : i + 1 + length f.left ≡ i + suc (length f.left) = omega arith in
      took (record { left = r ∷ f.left; at = f.at; right = f.right; list = ap (λ x. r ∷ x) f.list; less = k; left_more = (omega arith, f.left_more); right_least = f.right_least })
      (e ∙ q ∙ ap (λ j. record { branch = branch; rect = j; extra = extra f.at }) z)

  scan : (i : ℕ) (best : Least) (l : List Rect) → Scanned extra branch i best l
  unfolding least_in lesser All
  scan i best [] = kept tt refl
  scan i best (r ∷ l) = go (ltb (extra r) best.extra) refl (λ x. scan (i + 1) x l)
    where
      go : (b : Bool) → ltb (extra r) best.extra ≡ b → ((x : Least) → Scanned extra branch (i + 1) x l) → Scanned extra branch i best (r ∷ l)
      go true e f = scan_lesser i best r l (ltb-true _ _ e) (rw e) (f _)
      go false e f = scan_same i best r l (ltb-false _ _ e) (rw e) (f best)

-- all of a list in which the first of the least was found have more than what is still less
more_of : (extra : Rect → ℕ) (limit x : ℕ) (l : List Rect) (f : FirstIn extra limit l) → x < extra f.at → More extra x l
unfolding All
more_of extra limit x l f h = rw f.list
    (all_append _ f.left (f.at ∷ f.right)
    (all_map (λ r. extra f.at < extra r) _ f.left (λ r g. omega arith) f.left_more)
    (h, all_map (λ r. extra f.at ≤ extra r) _ f.right (λ r g. omega arith) f.right_least))

module _ (c : Cell) where
  all_kept : (i : ℕ) (best : Least) (q : List Rect) (ps : List (List Rect)) → AtLeast (extra_in q c) best.extra q → least_from c i best (q ∷ ps) ≡ least_from c (i + 1) best ps
      → ScannedAll c (i + 1) best ps → ScannedAll c i best (q ∷ ps)
  unfolding All
  all_kept i best q ps h e (kept a z) = kept (h, a) (e ∙ z)
  all_kept i best q ps h e (took f z) =
      let k = f.inside.less in
      let y : i + 1 + length f.before ≡ i + suc (length f.before) = omega arith in
      took (record {
        before = q ∷ f.before;
        polygon = f.polygon;
        inside = f.inside;
        after = f.after;
        row = ap (λ x. q ∷ x) f.row;
        before_more = (all_map (λ r. best.extra ≤ extra_in q c r) _ q (λ r g. omega arith) h, f.before_more);
        after_least = f.after_least;
      }) (e ∙ z ∙ ap (λ j. record { branch = j; rect = length f.inside.left; extra = extra_in f.polygon c f.inside.at }) y)

  raise : (extra : Rect → ℕ) (x y : ℕ) (l : List Rect) → x < y → FirstIn extra x l → FirstIn extra y l
  raise extra x y l h f = let k = f.less in record {
    left = f.left;
    at = f.at;
    right = f.right;
    list = f.list;
    less = omega arith;
    left_more = f.left_more;
    right_least = f.right_least;
  }

  all_took : (i : ℕ) (best : Least) (q : List Rect) (ps : List (List Rect)) (g : FirstIn (extra_in q c) best.extra q)
      → least_from c i best (q ∷ ps) ≡ least_from c (i + 1) (record { branch = i; rect = length g.left; extra = extra_in q c g.at }) ps
      → ScannedAll c (i + 1) (record { branch = i; rect = length g.left; extra = extra_in q c g.at }) ps → ScannedAll c i best (q ∷ ps)
  unfolding All raise
  all_took i best q ps g e (kept a z) =
      let y : i ≡ i + 0 = omega arith in
      took (record { before = []; polygon = q; inside = g; after = ps; row = refl; before_more = tt; after_least = a })
      (e ∙ z ∙ ap (λ j. record { branch = j; rect = length g.left; extra = extra_in q c g.at }) y)
  all_took i best q ps g e (took f z) =
      let k = f.inside.less in
      let y : i + 1 + length f.before ≡ i + suc (length f.before) = omega arith in
      took (record {
        before = q ∷ f.before;
        polygon = f.polygon;
        inside = raise (extra_in f.polygon c) (extra_in q c g.at) best.extra f.polygon g.less f.inside;
        after = f.after;
        row = ap (λ x. q ∷ x) f.row;
        before_more = (more_of (extra_in q c) best.extra (extra_in f.polygon c f.inside.at) q g k, f.before_more);
        after_least = f.after_least;
      }) (e ∙ z ∙ ap (λ j. record { branch = j; rect = length f.inside.left; extra = extra_in f.polygon c f.inside.at }) y)

  scan_all : (i : ℕ) (best : Least) (ps : List (List Rect)) → ScannedAll c i best ps
  unfolding least_from All
  scan_all i best [] = kept tt refl
  scan_all i best (q ∷ ps) = go (scan (extra_in q c) i 0 best q) (λ x. scan_all (i + 1) x ps)
    where
      go : Scanned (extra_in q c) i 0 best q → ((x : Least) → ScannedAll c (i + 1) x ps) → ScannedAll c i best (q ∷ ps)
      go (kept a e) f = all_kept i best q ps a (rw e) (f best)
      go (took g e) f =
          let z : 0 + length g.left ≡ length g.left = omega arith in
          all_took i best q ps g (rw (e, z)) (f _)

-- The rectangle that was found.
pub record FoundLeast (c : Cell) (ps : List (List Rect)) (x : Least) : Type 0 where
  pub limit : ℕ
  pub first : FirstOf c limit ps
  pub branch : x.branch ≡ length first.before
  pub rect : x.rect ≡ length first.inside.left

-- the scan finds one, where the first polygon has a rectangle
pub least_first : (c : Cell) (q : List Rect) (ps : List (List Rect)) (x : Least) → 1 ≤ length q
    → x ≡ least_all c (q ∷ ps) → FoundLeast c (q ∷ ps) x
least_first c [] ps x h e = absurd (omega arith)
least_first c (r ∷ l) ps x h e = go (scan_all c 0 (start_at (alone_from c all_cells ((r ∷ l) ∷ ps))) ((r ∷ l) ∷ ps))
  where
    go : ScannedAll c 0 (start_at (alone_from c all_cells ((r ∷ l) ∷ ps))) ((r ∷ l) ∷ ps) → FoundLeast c ((r ∷ l) ∷ ps) x
    go (kept a z) = absurd (alone_reached c r l ps a)
    go (took f z) =
        let y : x ≡ record { branch = 0 + length f.before; rect = length f.inside.left; extra = extra_in f.polygon c f.inside.at } = e ∙ z in
        let w : 0 + length f.before ≡ length f.before = omega arith in
        record { limit = _; first = f; branch = ap (λ n. n.branch) y ∙ w; rect = ap (λ n. n.rect) y }
