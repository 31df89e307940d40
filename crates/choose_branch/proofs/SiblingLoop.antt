-- The loop that cuts a list by the polygons of the nodes at some parts, and the two of them that make the cut by all siblings.
use Prim.Native.Nat.{ℕ, ◌+◌, ◌-◌, ◌≤◌, ◌<◌}
use mathlib.Core.Path.{◌≡◌, sym, ap, ◌∙◌}
use mathlib.Core.List.{List, ◌∷◌, ◌++◌, flat_map}
use mathlib.Core.Option.{bind}
use native.Mathlib.Omega.{arith}
use native.Mathlib.Numerals.{add-one}
use lib.ListN.{length, take, drop, get_or, drop_of_length-le, length-drop}
use lib.Seq.{drop-cons, get_or-drop, length-take-le, take_all}
use Rattle.std.proofs.lemmas.List.{get_or-take, take-map, drop-map}
use Rattle.std.proofs.Common.{Result, Ok, Err, IsErr}
use Rattle.polygons.specs.Rules.{cut_each}
use Rattle.polygons.proofs.ListLaws.{flat_map_append}
use Rattle.geometry.specs.declared.polygon.Polygon.{Polygon}
use Rattle.geometry.specs.Cut.{cut_limited}
use Rattle.geometry.specs.Numbers.{rects_in, rects_of, counted, Written, PolygonOf}
use Rattle.geometry.proofs.CutLaws.{cut_limited_append}
use Rattle.geometry.proofs.CutLoops.{any_error}
use Rattle.memory.specs.Layout.{part, polygon_in, children_in}
use Rattle.layout.specs.Nodes.{count_at, PolygonPart}
use Rattle.geometry.specs.declared.cut.TooMany.{TooMany}
use Rattle.choose_branch.specs.Branches.{polygons_at, polygons_in, Branches}
use Rattle.choose_branch.specs.Pieces.{rects_all, siblings}
use Rattle.choose_branch.proofs.ChildParts.{children_here, polygon_here}

-- The first i parts have cut the list; the others are left to do.
pub record CuttingBy (m parts list₀ : List ℕ) (n : ℕ) (spare₀ list spare : List ℕ) (left i : ℕ) : Type 0 where
  pub few : left ≤ 256
  pub room : 1088 ≤ length list
  pub same_length : length list ≡ length list₀
  pub spare_room : 1088 ≤ length spare
  pub spare_length : length spare ≡ length spare₀
  pub rest : cut_limited (rects_in list₀ n) (rects_all (polygons_at m parts))
      ≡ cut_limited (rects_in list left) (rects_all (polygons_at m (drop i parts)))

module _ (m parts list₀ : List ℕ) (n : ℕ) (spare₀ : List ℕ) where
  module _ (list spare : List ℕ) (left i : ℕ) (v : CuttingBy m parts list₀ n spare₀ list spare left i) where
    pub cut_end : length parts ≤ i → Written list₀ (cut_limited (rects_in list₀ n) (rects_all (polygons_at m parts))) (Ok left) list
    unfolding counted cut_each rects_all flat_map
    cut_end h = record {
      list = sym (v.rest ∙ rw (drop_of_length-le parts h));
      few = v.few;
      same_length = v.same_length;
    }

    module _ (p : Polygon) (a : Result ℕ TooMany) (list' spare' : List ℕ) (h : i < length parts)
        (q : PolygonOf (polygon_in (part m (get_or parts i 0))) p)
        (w : Written list (cut_limited (rects_in list left) (rects_of p)) a list') where
      next : cut_limited (rects_in list₀ n) (rects_all (polygons_at m parts))
          ≡ bind (counted a list') (λ l. cut_limited l (rects_all (polygons_at m (drop (i + 1) parts))))
      unfolding rects_all flat_map
      next =
          let rest = rects_all (polygons_at m (drop (i + 1) parts)) in
          let row : drop i parts ≡ get_or parts i 0 ∷ drop (i + 1) parts = drop-cons parts i 0 h ∙ rw add-one in
          v.rest ∙ ap (λ x. cut_limited (rects_in list left) (rects_all (polygons_at m x))) row
          ∙ ap (λ x. cut_limited (rects_in list left) (x ++ rest)) (sym q.list) ∙ cut_limited_append (rects_in list left) (rects_of p) rest
          ∙ ap (λ o. bind o (λ l. cut_limited l rest)) (sym w.list)

      pub cut_over : (x : TooMany) → a ≡ Err x → (r : Result ℕ TooMany) → IsErr r
          → Written list₀ (cut_limited (rects_in list₀ n) (rects_all (polygons_at m parts))) r list'
      unfolding counted bind
      cut_over x e r z = any_error r x z (record { list = sym (next ∙ rw e); few = tt; same_length = w.same_length ∙ v.same_length })

      pub cut_again : (left' : ℕ) → a ≡ Ok left' → length spare' ≡ length spare → CuttingBy m parts list₀ n spare₀ list' spare' left' (i + 1)
      unfolding counted bind
      cut_again left' e f = record {
        few = rw e at w.few;
        room = rw w.same_length v.room;
        same_length = w.same_length ∙ v.same_length;
        spare_room = rw f v.spare_room;
        spare_length = f ∙ v.spare_length;
        rest = next ∙ rw e;
      }

-- the children before a place and after it
module _ (m : List ℕ) (k place : ℕ) (b : Branches m k) (ks : List ℕ) (q : ks ≡ children_in (part m k)) (h : place < count_at m k) where
  -- of those before it, as many as are taken
  pub before_length : (x : ℕ) → x ≤ place → x ≡ length (take x ks)
  before_length x f =
      let c = children_here m k b ks q in
      sym (length-take-le x ks (omega arith))

  pub after_in : place + 1 ≤ length ks
  after_in = let c = children_here m k b ks q in omega arith

  pub before_each : (x : ℕ) → x ≤ place → (i : ℕ) → i < length (take x ks) → PolygonPart m (get_or (take x ks) i 0)
  before_each x f i g =
      let c = children_here m k b ks q in
      let l = before_length x f in
      let e : get_or (take x ks) i 0 ≡ get_or ks i 0 = get_or-take x ks i 0 (omega arith) in
      rw e (polygon_here m k b ks q i (omega arith))

  -- as the code takes them: a part of the list by its start and its length
  abbrev after : List ℕ
  after = take (length ks - (place + 1)) (drop (place + 1) ks)

  after_is : after ≡ drop (place + 1) ks
  after_is = take_all (length ks - (place + 1)) (drop (place + 1) ks) (let l = length-drop (place + 1) ks in omega arith)

  pub after_each : (i : ℕ) → i < length after → PolygonPart m (get_or after i 0)
  after_each i g =
      let c = children_here m k b ks q in
      let l : length after ≡ length ks - (place + 1) = ap length after_is ∙ length-drop (place + 1) ks in
      let e : get_or after i 0 ≡ get_or ks (place + 1 + i) 0 = ap (λ l. get_or l i 0) after_is ∙ get_or-drop (place + 1) ks i 0 in
      rw e (polygon_here m k b ks q (place + 1 + i) (omega arith))

  siblings_are : siblings (polygons_in m k) place ≡ rects_all (polygons_at m (take place ks)) ++ rects_all (polygons_at m (drop (place + 1) ks))
  unfolding siblings rects_all polygons_in
  siblings_are =
      ap (λ l. siblings (polygons_at m l) place) (sym q)
      ∙ flat_map_append (λ q. q) (take place (polygons_at m ks)) (drop (place + 1) (polygons_at m ks))
      ∙ rw (take-map, drop-map)

  module _ (list₀ : List ℕ) (n : ℕ) (a : Result ℕ TooMany) (list : List ℕ)
      (v : Written list₀ (cut_limited (rects_in list₀ n) (rects_all (polygons_at m (take place ks)))) a list) where
    both_cuts : cut_limited (rects_in list₀ n) (siblings (polygons_in m k) place)
        ≡ bind (counted a list) (λ l. cut_limited l (rects_all (polygons_at m (drop (place + 1) ks))))
    both_cuts =
        let rest = rects_all (polygons_at m (drop (place + 1) ks)) in
        ap (cut_limited (rects_in list₀ n)) siblings_are
        ∙ cut_limited_append (rects_in list₀ n) _ rest ∙ ap (λ o. bind o (λ l. cut_limited l rest)) (sym v.list)

    pub siblings_over : (x : TooMany) → a ≡ Err x → (r : Result ℕ TooMany) → IsErr r
        → Written list₀ (cut_limited (rects_in list₀ n) (siblings (polygons_in m k) place)) r list
    unfolding counted bind
    siblings_over x e r z = any_error r x z (record { list = sym (both_cuts ∙ rw e); few = tt; same_length = v.same_length })

    pub siblings_cut : (left : ℕ) → a ≡ Ok left → (a' : Result ℕ TooMany) (list' : List ℕ)
        → Written list (cut_limited (rects_in list left) (rects_all (polygons_at m after))) a' list'
        → Written list₀ (cut_limited (rects_in list₀ n) (siblings (polygons_in m k) place)) a' list'
    unfolding counted bind
    siblings_cut left e a' list' w = record {
      list = w.list ∙ ap (λ l. cut_limited (rects_in list left) (rects_all (polygons_at m l))) after_is ∙ sym (both_cuts ∙ rw e);
      few = w.few;
      same_length = w.same_length ∙ v.same_length;
    }
