-- `leaf::entries_inside` meets its contract.
use Rattle.std.proofs.Common.{rules, ◌∙◌}
use Rattle.std.proofs.lemmas.Iterator.Consumers.{YieldsList-from_first}
use Rattle.std.proofs.lemmas.Iterator.Search.{all_from_yields_List}
use Rattle.cover.proofs.PassLoops.{list_all-pass}
use Rattle.plane.specs.Fanout.{fanout}
use Rattle.geometry.specs.Containment.{containment}
use Rattle.memory.specs.Layout.{polygon_in}
use Rattle.memory.specs.SoundTest.{item_test}
use Rattle.layout.specs.Entries.{tree_entry, entries_left}
use Rattle.soundness.proofs.leaf.entries_inside.Goals as goal

pub returns : goal.returns
unfolding item_test containment
returns c =
    all_from_yields_List (item_test fanout 0 (polygon_in c.args.p.now)) c.all.new.self _ _ c.all.ensures.ran (YieldsList-from_first tree_entry entries_left _ c.entries.ensures) (λ x b q k. search rules)
    ∙ list_all-pass _ _
