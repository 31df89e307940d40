-- An insertion into the tree that a memory reads as: its end, from the path and what was written.
use Prim.Native.Nat.{ℕ, suc, ◌+◌, ◌*◌, ◌≤◌, ◌<◌, min}
use mathlib.Core.Bool.{true, false}
use mathlib.Core.Path.{◌≡◌, refl, sym, ap, ◌∙◌, subst}
use mathlib.Core.List.{List, [], ◌∷◌}
use mathlib.Core.Option.{some}
use native.Mathlib.Omega.{arith}
use mir.Syntax.{w32}
use mir.Val.{Fits}
use borrow.Author.Tests.{le-leb, lt-leb}
use lib.ListN.{length}
use Rattle.std.specs.Prelude.{None}
use Rattle.path.specs.declared.level.Level.{Level}
use Rattle.geometry.specs.declared.rect.Cell.{Cell}
use Rattle.tree.specs.Nodes.{nodes}
use Rattle.tree.specs.Tree.{Tree, top, entries, node_count, SoundTree}
use Rattle.tree.specs.Insert.{accepted, limited, insert_tree}
use Rattle.tree.specs.Query.{holds}
use Rattle.tree.specs.Calls.{outcome_index}
use Rattle.tree.proofs.Counts.{count_of_every}
use Rattle.tree.proofs.Insert.{insert_sound, insert_entries}
use Rattle.plane.specs.Lines.{CellEntry, Payload, some_payload, entry_of}
use Rattle.plane.specs.Fanout.{fanout, index_space, index_root}
use Rattle.plane.proofs.Rects.{plane_space_laws}
use Rattle.plane.proofs.Steps.{plane_steps}
use Rattle.plane.proofs.Roots.{plane_root_laws}
use Rattle.memory.specs.Layout.{parts_of, bits_set}
use Rattle.memory.specs.Reading.{reading}
use Rattle.memory.specs.Image.{write_node, memory_of, image}
use Rattle.memory.proofs.ReadingLaws.{ReadSound, read_sound, IndexLength, index_length}
use Rattle.memory.proofs.SoundTested.{test_of_sound}
use Rattle.memory.proofs.ImageLaws.{image_reads, image_length}
use Rattle.memory.proofs.NodeImage.{length_node}
use Rattle.layout.specs.Nodes.{count_at}
use Rattle.layout.specs.Writing.{written}
use Rattle.layout.proofs.WritingLaws.{written_image}
use Rattle.std.specs.Prelude.{Ok, Err}
use Rattle.answers.specs.declared.answer.Refusal.TheVariants as R
use Rattle.answers.specs.Answers.{cells_removed, insert_end, insert_read}
use Rattle.answers.specs.Changes.{inserted_index}
use Rattle.walks.specs.Walks.{Walkable}
use Rattle.walks.specs.Count.{entries_at}
use Rattle.walks.proofs.TreeWalk.{tree_walkable}
use Rattle.walks.proofs.CountWalk.{held_few, tree_held}
use Rattle.queries.specs.Held.{held_read}
use Rattle.path.specs.Path.{part_on, line_on}
use Rattle.tree_after.specs.declared.on_path.Written.{Written}
use Rattle.tree_after.specs.Writes.{count_limit}
use Rattle.tree_after.specs.Path.{planned_tree}
use Rattle.tree_after.specs.Whole.{TreeRoom, TreeWritten}
use Rattle.insertion.specs.Planning.{FullLevels, PlanMade}
use Rattle.insertion.specs.Insert.{Inserting, PathReady, PathPlanned, PathRefused, Built, BuiltInPlace}
use Rattle.insertion.specs.Removed.{RemovedIs}
use Rattle.insertion.specs.Growing.{grown_tree, Growing, Grown}
use Rattle.insertion.proofs.PlanLoop.{plan_start, plan_end}
use Rattle.insertion.proofs.SplitCount.{none_split}
use Rattle.insertion.proofs.RootLaws.{ready_planned, ready_more}
use Rattle.insertion.proofs.GrowTree.{tree_grown, path_growing, nodes_grown, reads_grown}

module _ (m : List ℕ) (level root : ℕ) (c : Cell) (v : Inserting m level root c) where
  read_tree_lem : ReadSound fanout m v.tree_in.tree
  read_tree_lem = read_sound fanout m v.tree_in.tree v.tree_in.reads

  pub build_walk : Walkable level m 0 root
  build_walk = tree_walkable m level root v.tree_in

  pub build_right : IndexLength m
  build_right = index_length m read_tree_lem.right

  -- the numbers that say which parts are in use
  pub build_head : 8 ≤ length m
  build_head = let a = build_right.length_is in omega arith

  pub build_level : level ≤ 255
  build_level = let a = read_tree_lem.levels in let b = read_tree_lem.few_parts in let d = v.tree_in.level_is in omega arith

  -- a path of 256 levels has room
  pub build_room : level < 256
  build_room = let a = build_level in omega arith

module _ (m : List ℕ) (level root : ℕ) (c : Cell) (t : Payload) (v : Inserting m level root c) where
  abbrev x : Tree index_space
  x = v.tree_in.tree

  abbrev e : CellEntry
  e = entry_of c t

  abbrev N : ℕ
  N = parts_of m

  reads : reading fanout m ≡ some (some x)
  reads = v.tree_in.reads

  sound_x : ReadSound fanout m x
  sound_x = read_sound fanout m x reads

  not_held : holds index_space c (some x) ≡ false
  unfolding held_read
  not_held = sym (ap (held_read c) reads) ∙ v.new

  -- the insertion as the answer and the memory have it
  read_is : insert_read N e (reading fanout m)
      ≡ insert_end (cells_removed (some x) c)
      (limited index_space N (insert_tree index_space index_root (some x) e))
  unfolding insert_read
  read_is = rw (reads, not_held)

  index_is : inserted_index N e (reading fanout m) ≡ some (outcome_index index_space (some x) (limited index_space N (insert_tree index_space index_root (some x) e)))
  unfolding inserted_index
  index_is = rw (reads, not_held)

  -- refusal 7
  pub built_seven : (w w' : List ℕ) → PathRefused m c → length w' ≡ length w → Built m w e m w' (Err R.OverLimit)
  unfolding insert_end
  built_seven w w' p l = record {
    answer = sym (read_is ∙ rw (p.after x reads t));
    memory = refl;
    memory_length = refl;
    work_length = l;
    zeroed = refl;
  }

  -- refusal 8 before the tree after is counted: each node that is split adds one at least
  built_early : (path : List Level) → PathReady m level c path → (n : ℕ) → FullLevels level path m n → N < bits_set m + n → (w : List ℕ) → Built m w e m w (Err R.TooManyNodes)
  unfolding insert_end
  built_early path r n f h w =
      let a = ready_more m level root c v path r n f t in
      let le = a.2 in
      let nodes_x : node_count index_space (some x) ≡ bits_set m = unfold nodes in sound_x.bits in
      let o : N < node_count index_space (some a.0) = omega arith in
      record {
        answer = sym (read_is ∙ rw (a.1, lt-leb (node_count index_space (some a.0)) N o));
        memory = refl;
        memory_length = refl;
        work_length = refl;
        zeroed = refl;
      }

  module _ (path : List Level) (p : PathPlanned m level c path) where
    abbrev y : Tree index_space
    y = planned_tree level path m e

    gives : insert_tree index_space index_root (some x) e ≡ some y
    gives = p.after x reads t

    abbrev count : ℕ
    count = node_count index_space (some y)

    -- refusal 8
    pub built_eight : (w w' : List ℕ) (k : ℕ) → k ≡ min count_limit count → N < k → length w' ≡ length w → Built m w e m w' (Err R.TooManyNodes)
    unfolding insert_end
    built_eight w w' k q h l =
        let o : N < count = omega arith in
        record {
          answer = sym (read_is ∙ rw (gives, lt-leb count N o));
          memory = refl;
          memory_length = refl;
          work_length = l;
          zeroed = refl;
        }

    sound_y : SoundTree index_space index_root y
    sound_y = insert_sound index_space (plane_space_laws fanout) (plane_steps fanout (omega arith)) index_root (plane_root_laws fanout) (omega arith) (some x) e y gives sound_x.sound v.grid not_held

    entries_y : length (entries index_space (some y)) ≡ length (entries index_space (some x)) + 1
    entries_y =
        let a = insert_entries index_space (plane_space_laws fanout) (plane_steps fanout (omega arith)) index_root (plane_root_laws fanout) (omega arith) (some x) e y gives (λ z. true) in
        let b = count_of_every (entries index_space (some y)) in
        let d = count_of_every (entries index_space (some x)) in
        let f = count_of_every (e ∷ []) in
        omega arith

    -- the insertion is accepted: the memory reads as the tree after, which has no more nodes than there are parts
    built_accepted : (w m' w' : List ℕ) (n u : ℕ) → count ≤ N → reading fanout m' ≡ some (some y) → length m' ≡ length m → length w' ≡ length w
        → n ≡ length (entries index_space (some x)) → RemovedIs m c u → Built m w e m' w' (Ok (record { held = n + 1; removed = u }))
    unfolding insert_end
    built_accepted w m' w' n u fits r l k b o =
        let outcome : limited index_space N (insert_tree index_space index_root (some x) e) ≡ accepted (some y) = rw (gives, le-leb count N fits) in
        let held : n + 1 ≡ length (entries index_space (some y)) = let f = entries_y in omega arith in
        record {
          answer = ap (λ (i : ℕ). Ok (record { held = i; removed = u })) held ∙ ap (λ (i : ℕ). Ok (record { held = length (entries index_space (some y)); removed = i })) (o.is x reads)
              ∙ sym (read_is ∙ ap (insert_end (cells_removed (some x) c)) outcome);
          memory = r ∙ sym (index_is ∙ ap (λ o. some (outcome_index index_space (some x) o)) outcome);
          memory_length = l;
          work_length = k;
          zeroed = refl;
        }

    module _ (k : ℕ) (q : k ≡ min count_limit count) (h : k ≤ N) where
      few : N ≤ 256
      few = sound_x.few_parts

      fits : count ≤ N
      fits = let f = few in omega arith

      pub tree_room : (w : List ℕ) → length w ≡ length m → TreeRoom w y
      tree_room w l =
          let f = fits in
          let g = few in
          let r = (index_length m sound_x.right).length_is in
          record { fits = omega arith; small = omega arith }

      count_y : nodes index_space (suc y.level) (top index_space y) ≡ count
      unfolding nodes
      count_y = refl

      module _ (w w' : List ℕ) (r : Written) (l : length w ≡ length m) (z : TreeWritten w y w' r) where
        pub parts_few : r.parts ≤ 256
        parts_few = let a = z.parts_is in let b = fits in let g = few in omega arith

        pub parts_fit : 64 + 128 * r.parts ≤ length m
        parts_fit = let a = z.parts_is in let b = fits in let i = (index_length m sound_x.right).length_is in omega arith

        work_long : length w' ≡ length m
        work_long = z.same_length ∙ l

        image_is : written (length m) r.parts r.height w' ≡ image fanout N y
        unfolding image
        image_is =
            let i = (index_length m sound_x.right).length_is in
            let n : length (write_node fanout y.level 0 (top index_space y)) ≡ r.parts = length_node fanout y.level 0 (top index_space y) ∙ count_y ∙ sym z.parts_is in
            ap (λ (j : ℕ). written j r.parts r.height w') i ∙ written_image N r.height (write_node fanout y.level 0 (top index_space y)) w w' r.parts n (let s = sound_x.some_parts in omega arith) (let a = parts_fit in let b = work_long in omega arith) z.written
            ∙ ap (λ (j : ℕ). memory_of N j (write_node fanout y.level 0 (top index_space y))) z.height_is

        pub built_tree : (m' : List ℕ) (n u : ℕ) → m' ≡ written (length m) r.parts r.height w'
            → n ≡ length (entries index_space (some x)) → RemovedIs m c u
            → Built m w e m' w' (Ok (record { held = n + 1; removed = u }))
        built_tree m' n u a b o =
            let i = (index_length m sound_x.right).length_is in
            let tested = test_of_sound fanout y sound_y in
            let c_le : nodes index_space (suc y.level) (top index_space y) ≤ N = let f = fits in let d = count_y in omega arith in
            let im = a ∙ image_is in
            built_accepted w m' w' n u fits (ap (reading fanout) im ∙ image_reads fanout N y (omega arith) sound_x.some_parts few c_le tested)
            (ap length im ∙ image_length fanout N y (omega arith) sound_x.some_parts few c_le tested ∙ sym i) z.same_length b o

    -- no node is split, and the path was written in place
    module _ (u : (j : ℕ) → j ≤ level → line_on path j ≡ None) where
      planned_x : PathPlanned m x.level c path
      planned_x = subst (λ (i : ℕ). PathPlanned m i c path) (sym v.tree_in.level_is) p

      pub grow_path : count_at m (part_on path 0) < 8 → Growing level path m
      grow_path h = subst (λ (i : ℕ). Growing i path m) v.tree_in.level_is (path_growing m c x reads path planned_x h)

      y_grown : y ≡ grown_tree x.level path m e
      y_grown = tree_grown m level path e p.good.from u ∙ ap (λ (i : ℕ). grown_tree i path m e) (sym v.tree_in.level_is)

      pub built_grown : (w m' : List ℕ) (n u : ℕ) → Grown level path m e m'
          → n ≡ length (entries index_space (some x)) → RemovedIs m c u
          → Built m w e m' w (Ok (record { held = n + 1; removed = u }))
      built_grown w m' n u g b o =
          let g' : Grown x.level path m e m' = subst (λ (i : ℕ). Grown i path m e m') (sym v.tree_in.level_is) g in
          let sound = subst (λ (u : Tree index_space). SoundTree index_space index_root u) y_grown sound_y in
          let c_is : count ≡ node_count index_space (some x) = ap (λ (u : Tree index_space). node_count index_space (some u)) y_grown ∙ nodes_grown m c x reads path planned_x t m' g' in
          let f : node_count index_space (some x) ≤ N = unfold nodes in sound_x.fits in
          built_accepted w m' w n u (omega arith) (reads_grown m c x reads path planned_x t m' g' sound ∙ ap (λ (u : Tree index_space). some (some u)) (sym y_grown)) g.same_length refl b o

-- The same for the code, from what finding the path told.
module _ (m : List ℕ) (level root : ℕ) (c : Cell) (v : Inserting m level root c) where
  held_is : length (entries_at level m 0 root) ≡ length (entries index_space (some v.tree_in.tree))
  held_is = ap length (tree_held m level root v.tree_in)

  pub held_fits : (n : ℕ) → n ≡ length (entries_at level m 0 root) → Fits w32 (n + 1)
  held_fits n e = let b = held_few level m 0 root (tree_walkable m level root v.tree_in) in omega arith

  pub build_seven : (t : Payload) (w : List ℕ) → PathRefused m c → Built m w (entry_of c t) m w (Err R.OverLimit)
  build_seven t w f = built_seven m level root c t v w w f refl

  module _ (path : List Level) (r : PathReady m level c path) where
    module _ (n : ℕ) (f : FullLevels level path m n) where
      -- 8 early
      module _ (bits : ℕ) (bits_is : bits ≡ bits_set m) where
        pub early_fits : Fits w32 (bits + n)
        early_fits =
            let a = f.most in
            let b = build_level m level root c v in
            let d = (read_tree_lem m level root c v).bits in
            let g = (read_tree_lem m level root c v).fits in
            let h = (read_tree_lem m level root c v).few_parts in
            omega arith

        pub build_early : (room : ℕ) → room ≡ parts_of m → room < bits + n → (t : Payload) (w : List ℕ) → Built m w (entry_of c t) m w (Err R.TooManyNodes)
        build_early room room_is h t w = built_early m level root c t v path r n f (omega arith) w

      -- the plan
      pub build_planned : (path' : List Level) → PlanMade level path m c path' → PathPlanned m level c path'
      build_planned path' made = ready_planned m level root c v path r path' made

      -- in place
      module _ (z : n ≡ 0) where
        none_planned : PathPlanned m level c path
        none_planned = build_planned path (plan_end level path m n c 0 path (plan_start level path m n c r.plannable f) (omega arith))

        leaf_room : count_at m (part_on path 0) < 8
        leaf_room = (none_split level path m n f z).next (omega arith)

        pub build_growing : Growing level path m
        build_growing = grow_path m level root c some_payload v path none_planned r.plannable.unsplit leaf_room

        pub build_grown : (t : Payload) (m' : List ℕ) (x u : ℕ) → Grown level path m (entry_of c t) m'
            → x ≡ length (entries_at level m 0 root) → RemovedIs m c u
            → BuiltInPlace m (entry_of c t) m' (Ok (record { held = x + 1; removed = u }))
        build_grown t m' x u g e o w = built_grown m level root c t v path none_planned r.plannable.unsplit w m' x u g (e ∙ held_is) o

  module _ (path : List Level) (p : PathPlanned m level c path) where
    -- anew
    module _ (t : Payload) (k : ℕ) (q : k ≡ min count_limit (node_count index_space (some (planned_tree level path m (entry_of c t))))) where
      pub build_eight : (w : List ℕ) (room : ℕ) → room ≡ parts_of m → room < k → Built m w (entry_of c t) m w (Err R.TooManyNodes)
      build_eight w room e h = built_eight m level root c t v path p w w k q (omega arith) refl

      module _ (room : ℕ) (room_is : room ≡ parts_of m) (fits_in : k ≤ room) (w : List ℕ) (l : length w ≡ length m) where
        h : k ≤ parts_of m
        h = omega arith

        pub write_room : TreeRoom w (planned_tree level path m (entry_of c t))
        write_room = tree_room m level root c t v path p k q h w l

        module _ (w' : List ℕ) (r : Written) (z : TreeWritten w (planned_tree level path m (entry_of c t)) w' r) where
          pub put_few : r.parts ≤ 256
          put_few = parts_few m level root c t v path p k q h w w' r l z

          pub put_fit : 64 + 128 * r.parts ≤ length m
          put_fit = parts_fit m level root c t v path p k q h w w' r l z

          pub build_accepted : (m' : List ℕ) (x u : ℕ) → m' ≡ written (length m) r.parts r.height w'
              → x ≡ length (entries_at level m 0 root) → RemovedIs m c u
              → Built m w (entry_of c t) m' w' (Ok (record { held = x + 1; removed = u }))
          build_accepted m' x u a e o = built_tree m level root c t v path p k q h w w' r l z m' x u a (e ∙ held_is) o
