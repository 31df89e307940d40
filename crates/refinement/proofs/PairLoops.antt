-- Refine of a polygon: the search through its pairs, a rectangle taken out, and the loop of steps.
use mathlib.Core.Path.{◌≡◌, refl, sym, ◌∙◌, ap}
use mathlib.Core.Bool.{Bool, true, false}
use mathlib.Core.List.{List}
use Prim.Native.Nat.{ℕ, ◌+◌, ◌-◌, ◌≤◌, ◌<◌}
use native.Mathlib.Omega.{arith}
use native.Mathlib.Decide.{dec_lt}
use lib.ListN.{length, take, get_or, set}
use Rattle.std.specs.Prelude.{Option, None, Some, unwrap_or}
use Rattle.std.specs.List.{CopiedTo, SameBelow}
use lib.Seq.{ext_get_or, get_or-take, length-take-le, take-set-lt, drop-set-lt, set-append_left}
use Rattle.geometry.specs.declared.rect.Rect.{Rect}
use Rattle.geometry.specs.declared.polygon.Polygon.{Polygon}
use Rattle.geometry.specs.Cells.{no_rect}
use Rattle.geometry.specs.Numbers.{rects_of, PolygonOf}
use Rattle.geometry.specs.Refine.{within, contained, dropped, joinable, union, joins, joined, refine}
use Rattle.geometry.proofs.RefineLaws.{length_dropped, length_joined}
use Rattle.refinement.specs.declared.polygon_refine.Next.{Next}
use Rattle.refinement.specs.declared.polygon_refine.Next.TheVariants.{Join}
use Rattle.refinement.specs.Pairs.{nested, near, Apart, Clear, OthersApart, Dropping, Joining, NextIs}
use Rattle.refinement.proofs.FirstLaws.{in_earlier, in_later}
use Rattle.refinement.proofs.DropLaws.{dropped_low, dropped_high, refine_dropped}
use Rattle.refinement.proofs.FindLaws.{Found}
use Rattle.refinement.proofs.PairLaws.{not_nested, not_near, clear_nested, apart_dropped, others_joined, refine_joined, refine_apart}

module _ (p : Polygon) (g : p.count ≤ 16) (h : length p.rects ≡ 16) where
  count_is : length (rects_of p) ≡ p.count
  count_is = length-take-le p.count p.rects (omega arith)

  at : (i : ℕ) → i < p.count → get_or p.rects i no_rect ≡ get_or (rects_of p) i no_rect
  at i k = sym (get_or-take p.count p.rects i no_rect k)

-- The search stands at the row of the i-th of n rectangles, at or behind the given one, and goes on at the start: no
-- pair before passes the test.
pub record Rows (q : Rect → Rect → Bool) (p : Polygon) (n from i start : ℕ) : Type 0 where
  pub low : from ≤ i
  pub after : i < start
  pub n_is : n ≡ p.count
  pub few : p.count ≤ 16
  pub long : length p.rects ≡ 16
  pub clear : Clear q (rects_of p) i start

-- It stands in that row, of m rectangles, at the j-th; the i-th is r.
pub record Row (q : Rect → Rect → Bool) (p : Polygon) (n m from i j : ℕ) (r : Rect) : Type 0 where
  pub rows : Rows q p n from i j
  pub m_is : m ≡ p.count
  pub inside : i < p.count
  pub first : r ≡ get_or (rects_of p) i no_rect

module _ (p : Polygon) (g : p.count ≤ 16) (h : length p.rects ≡ 16) (i : ℕ) where
  pub near_start : Apart near (rects_of p) i → Rows near p p.count i i (i + 1)
  near_start v = record {
    low = omega arith;
    after = omega arith;
    n_is = refl;
    few = g;
    long = h;
    clear = record { rows = v; row = λ b m n. absurd (omega arith) };
  }

  pub nested_start : (j : ℕ) → i < j → Clear near (rects_of p) i j → Rows nested p p.count i i j
  nested_start j k v =
      record { low = omega arith; after = k; n_is = refl; few = g; long = h; clear = clear_nested (rects_of p) i j v }

module _ (q : Rect → Rect → Bool) (p : Polygon) (n from i start : ℕ) (v : Rows q p n from i start) where
  -- the row begins
  pub row_start : i < n → Row q p n p.count from i start (get_or p.rects i no_rect)
  row_start h = record {
    rows = v;
    m_is = refl;
    inside = omega (arith, v.n_is);
    first = at p v.few v.long i (omega (arith, v.n_is));
  }

  -- no pair passes
  rows_end : n ≤ i → Apart q (rects_of p) (length (rects_of p))
  rows_end h = record {
    apart = λ a b x y z.
        let c = count_is p v.few v.long in
        v.clear.rows.apart a b (omega (arith, v.n_is)) y z;
  }

module _ (q : Rect → Rect → Bool) (p : Polygon) (n m from i j : ℕ) (r : Rect) (v : Row q p n m from i j r) where
  size : length (rects_of p) ≡ p.count
  size = count_is p v.rows.few v.rows.long

  second : j < m → get_or p.rects j no_rect ≡ get_or (rects_of p) j no_rect
  second h = at p v.rows.few v.rows.long j (omega (arith, v.m_is))

  -- the pair does not pass
  row_on : j < m → q r (get_or p.rects j no_rect) ≡ false → Row q p n m from i (j + 1) r
  row_on h e = record {
    rows = record {
      low = v.rows.low;
      after = omega (arith, v.rows.after);
      n_is = v.rows.n_is;
      few = v.rows.few;
      long = v.rows.long;
      clear = record { rows = v.rows.clear.rows; row = λ b k l. go b k l (dec_lt b j) };
    };
    m_is = v.m_is;
    inside = v.inside;
    first = v.first;
  }
    where
      go : (b : ℕ) → i < b → b < j + 1 → Dec (b < j) → q (get_or (rects_of p) i no_rect) (get_or (rects_of p) b no_rect) ≡ false
      go b k l (yes a) = v.rows.clear.row b k a
      go b k l (no a) = let z : b ≡ j = omega arith in rw z (rw (second h, v.first) at e)

  -- one of the pair is contained in the other
  module _ (k : ℕ) (f : k ≤ i) (a : Apart near (rects_of p) k) where
    drops : (c : ℕ) → k ≤ c → c < p.count → contained (rects_of p) c ≡ true → Dropping p c k
    drops c l o t =
        let s = size in
        let x : c < length (rects_of p) = omega arith in
        record {
          low = l;
          inside = o;
          same = refine_dropped (rects_of p) c x t;
          apart = apart_dropped near (rects_of p) k c l x a;
        }

    module _ (b : Bool) (h : j < m) (e : b ≡ within (get_or p.rects j no_rect) r) where
      drop_second : b ≡ true → Dropping p j k
      drop_second t =
          let s = size in
          let g = v.rows.after in
          let u = rw (second h, v.first) at (sym e ∙ t) in
          drops j (omega arith) (omega (arith, v.m_is)) (in_earlier (rects_of p) j (omega (arith, v.m_is)) i g u)

      drop_first : b ≡ false → (c : Bool) → c ≡ within r (get_or p.rects j no_rect) → c ≡ true → Dropping p i k
      drop_first t c l u =
          let s = size in
          let g = v.rows.after in
          let x = rw (second h, v.first) at (sym l ∙ u) in
          let y = rw (second h, v.first) at (sym e ∙ t) in
          drops i f v.inside (in_later (rects_of p) i (omega (arith, v.inside)) j g (omega (arith, v.m_is)) x y)

-- the search for two that are near
pub near_end : (p : Polygon) (n from i start : ℕ) → Rows near p n from i start → n ≤ i → refine (rects_of p) ≡ rects_of p
near_end p n from i start v h = refine_apart (rects_of p) (rows_end near p n from i start v h)

module _ (p : Polygon) (n m from i j : ℕ) (r : Rect) (v : Row near p n m from i j r) where
  module _ (b : Bool) (h : j < m) where
    pub near_joins : b ≡ joinable r (get_or p.rects j no_rect) → b ≡ true → joins (rects_of p) i j ≡ true
    unfolding joins
    near_joins e t = rw (second near p n m from i j r v h, v.first) at (sym e ∙ t)

    module _ (e : b ≡ within (get_or p.rects j no_rect) r) where
      pub near_second : b ≡ true → Dropping p j i
      near_second = drop_second near p n m from i j r v i (omega arith) v.rows.clear.rows b h e

      module _ (f : b ≡ false) (c : Bool) (g : c ≡ within r (get_or p.rects j no_rect)) where
        pub near_first : c ≡ true → Dropping p i i
        near_first = drop_first near p n m from i j r v i (omega arith) v.rows.clear.rows b h e f c g

        pub near_on : c ≡ false → (a : Bool) → a ≡ joinable r (get_or p.rects j no_rect) → a ≡ false
            → Row near p n m from i (j + 1) r
        near_on k a l o = row_on near p n m from i j r v h (not_near _ _ b c e g f k a l o)

-- the search for two that are nested, where the k-th and the w-th are the first that are near, and joinable
module _ (p : Polygon) (n k w : ℕ) (c : Clear near (rects_of p) k w) where
  pub nested_end : (i start : ℕ) → Rows nested p n k i start → n ≤ i → k < w → w < p.count
      → joins (rects_of p) k w ≡ true
      → Joining p k w
  nested_end i start v h f g e =
      let s = count_is p v.few v.long in
      let x : w < length (rects_of p) = omega arith in
      record {
        after = f;
        inside = g;
        same = refine_joined (rects_of p) (rows_end nested p n k i start v h) k w c f x e;
        others = others_joined (rects_of p) k w f x c.rows;
      }

  module _ (m i j : ℕ) (r : Rect) (v : Row nested p n m k i j r) (b : Bool) (h : j < m)
      (e : b ≡ within (get_or p.rects j no_rect) r) where
    pub nested_second : b ≡ true → Dropping p j k
    nested_second = drop_second nested p n m k i j r v k v.rows.low c.rows b h e

    module _ (f : b ≡ false) (d : Bool) (g : d ≡ within r (get_or p.rects j no_rect)) where
      pub nested_first : d ≡ true → Dropping p i k
      nested_first = drop_first nested p n m k i j r v k v.rows.low c.rows b h e f d g

      pub nested_on : d ≡ false → Row nested p n m k i (j + 1) r
      nested_on a = row_on nested p n m k i j r v h (not_nested _ _ b d e g f a)

-- the first rectangle before the i-th that is near it, or i
module _ (p : Polygon) (i x : ℕ) (o : Option ℕ) (g : p.count ≤ 16) (h : i < p.count) (l : length p.rects ≡ 16)
    (e : x ≡ unwrap_or o i) (f : Found (λ k. near (get_or p.rects k no_rect) (get_or p.rects i no_rect)) 0 i o) where
  before : (k : ℕ) → k < x → (k < i) × (near (get_or (rects_of p) k no_rect) (get_or (rects_of p) i no_rect) ≡ false)
  before k a = go o e f
    where
      go : (o : Option ℕ) → x ≡ unwrap_or o i
          → Found (λ k. near (get_or p.rects k no_rect) (get_or p.rects i no_rect)) 0 i o
          → (k < i) × (near (get_or (rects_of p) k no_rect) (get_or (rects_of p) i no_rect) ≡ false)
      go None e f =
          let b : k < i = omega arith in
          (b, rw (← at p g l k (omega arith), ← at p g l i h) (f k (omega arith) b))
      go (Some j) e f =
          let c = f.1 in
          let b : k < i = omega arith in
          (b, rw (← at p g l k (omega arith), ← at p g l i h) (f.3 k (omega arith) (omega arith)))

  -- before that place none is near a later one
  pub first_apart : OthersApart (rects_of p) i → Apart near (rects_of p) x
  first_apart v = record { apart = λ a b c d m. go a b c d m (dec_lt b i) (dec_lt i b) }
    where
      go : (a b : ℕ) → a < x → a < b → b < length (rects_of p) → Dec (b < i) → Dec (i < b)
          → near (get_or (rects_of p) a no_rect) (get_or (rects_of p) b no_rect) ≡ false
      go a b c d m (yes s) t = v.apart a b (before a c).0 d m (λ z. omega arith)
      go a b c d m (no s) (yes t) = v.apart a b (before a c).0 d m (λ z. omega arith)
      go a b c d m (no s) (no t) = let z : b ≡ i = omega arith in rw z (before a c).1

-- the rectangles behind the i-th, copied one place down
module _ (p : Polygon) (out : List Rect) (i : ℕ) (g : p.count ≤ 16) (h : i < p.count) (l : length p.rects ≡ 16)
    (m : length out ≡ length p.rects) (below : SameBelow p.rects out i)
    (copied : CopiedTo p.rects out (i + 1) i (p.count - (i + 1))) where
  moved : (j : ℕ) → j < p.count - 1 → get_or out j no_rect ≡ get_or (dropped (rects_of p) i) j no_rect
  moved j a = let c = count_is p g l in go c (dec_lt j i)
    where
      go : length (rects_of p) ≡ p.count → Dec (j < i)
          → get_or out j no_rect ≡ get_or (dropped (rects_of p) i) j no_rect
      go c (yes b) =
          below j no_rect b ∙ at p g l j (omega arith) ∙ sym (dropped_low (rects_of p) i j (omega arith) b)
      go c (no b) =
          let e : i + 1 + (j - i) ≡ j + 1 = omega arith in
          copied j no_rect (omega arith) (omega arith) ∙ ap (λ (x : ℕ). get_or p.rects x no_rect) e
          ∙ at p g l (j + 1) (omega arith)
          ∙ sym (dropped_high (rects_of p) i j (omega arith) (omega arith))

  pub taken_out : (few : p.count - 1 ≤ 16)
      → PolygonOf (dropped (rects_of p) i) (record { rects = out; count = p.count - 1; few = few })
  taken_out few =
      let c = count_is p g l in
      let s = length_dropped (rects_of p) i (omega arith) in
      let a = length-take-le (p.count - 1) out (omega arith) in
      record {
        list = ext_get_or no_rect (take (p.count - 1) out) (dropped (rects_of p) i) (omega arith) (λ j b.
            get_or-take (p.count - 1) out j no_rect (omega arith) ∙ moved j (omega arith));
        fits = omega arith;
      }

-- the union is put where the first of the two stood
pub union_put : (p : Polygon) (i j : ℕ) (u : Rect) (q : Polygon) → p.count ≤ 16 → i < j → j < p.count
    → length p.rects ≡ 16
    → PolygonOf (dropped (rects_of p) j) q → length q.rects ≡ 16
    → u ≡ union (get_or p.rects i no_rect) (get_or p.rects j no_rect)
    → (few : q.count ≤ 16) → PolygonOf (joined (rects_of p) i j) (record { rects = set q.rects i u; count = q.count; few = few })
union_put p i j u q g a b h v k e few =
    let c = count_is p g h in
    let d = count_is q v.fits k in
    let s = length_dropped (rects_of p) j (omega arith) in
    let t : length (rects_of q) ≡ length (dropped (rects_of p) j) = ap length v.list in
    let m : i < q.count = omega arith in
    let o : length (take j (rects_of p)) ≡ j = length-take-le j (rects_of p) (omega arith) in
    let x : i < length (take j (rects_of p)) = omega arith in
    let y : i < j + 1 = omega arith in
    record {
      list = rw (take-set-lt q.count q.rects i u m, v.list, set-append_left (take j (rects_of p)) _ i u x)
          (rw (
            ← at p g h i (omega arith),
            ← at p g h j b,
            ← e,
            take-set-lt j (rects_of p) i u a,
            drop-set-lt (j + 1) (rects_of p) i u y,
          ));
      fits = v.fits;
    }

-- Refining what the polygon holds now gives the same list, and no rectangle before the given one is near a later one.
pub record Refines (l : List Rect) (p : Polygon) (from : ℕ) : Type 0 where
  pub few : p.count ≤ 16
  pub long : length p.rects ≡ 16
  pub apart : Apart near (rects_of p) from
  pub same : refine (rects_of p) ≡ refine l

module _ (l : List Rect) (p : Polygon) (from : ℕ) (v : Refines l p from) where
  module _ (s : Option Next) (w : NextIs p s) where
    module _ (t : Next) (u : s ≡ Some t) where
      module _ (i j : ℕ) where
        joining : t ≡ Join i j → Joining p i j
        joining e = rw (u, e) at w

        -- what the calls require
        pub join_after : t ≡ Join i j → i < j
        join_after e = (joining e).after

        pub join_inside : t ≡ Join i j → j < p.count
        join_inside e = (joining e).inside

        -- the joined polygon has fewer rectangles
        module _ (q : Polygon) (k : length q.rects ≡ 16) where
          module _ (e : t ≡ Join i j) (x : PolygonOf (joined (rects_of p) i j) q) where
            one_less : q.count + 1 ≡ p.count
            one_less =
                let c = count_is p v.few v.long in
                let d = count_is q x.fits k in
                let m = length_joined (rects_of p) i j (omega (arith, join_inside e)) in
                let n : length (rects_of q) ≡ length (joined (rects_of p) i j) = ap length x.list in
                omega arith

            pub join_less : q.count < p.count
            join_less = omega (arith, one_less)

            -- what the search for one that is near the union requires
            pub union_inside : i < q.count
            union_inside = omega (arith, one_less, join_after e, join_inside e)
