-- What the forms of the calls for C promise: document 01's number is returned, and the values of the answer are
-- stored, each in its place; a value that the answer has not leaves its place as it was.
-- docs/RULES.md 7.6
use Rattle.std.specs.Prelude.{ℕ, List, ◌≡◌, get_or, length}
use Rattle.geometry.specs.declared.rect.Cell.{Cell}
use Rattle.geometry.specs.declared.rect.Rect.{Rect}
use Rattle.plane.specs.Lines.{CellEntry}
use Rattle.answers.specs.declared.reply.Reply.{Reply}
use Rattle.answers.specs.Numbers.{insert_reply, remove_reply, clear_reply, point_reply, window_reply, nearest_reply, empty_reply}
use Rattle.answers.specs.Answers.{insert_answer, remove_answer, clear_answer, cleared, point_answer, window_answer, window_list, nearest_answer, empty_answer}
use Rattle.answers.specs.Changes.{InsertMemory, work_after, RemoveMemory}

-- the k-th value, or what was there before
abbrev pub stored : Reply → ℕ → ℕ → ℕ
stored t k before = get_or t.values k before

pub record InsertExported (m w : List ℕ) (e : CellEntry) (held removed : ℕ) (n : ℕ) (m' w' : List ℕ)
    (held' removed' : ℕ) : Type 0 where
  pub number : n ≡ (insert_reply (insert_answer m (length w) e)).number
  pub memory : InsertMemory (insert_answer m (length w) e) m e m'
  pub memory_length : length m' ≡ length m
  pub work : w' ≡ work_after (insert_answer m (length w) e) w
  pub held_is : held' ≡ stored (insert_reply (insert_answer m (length w) e)) 0 held
  pub removed_is : removed' ≡ stored (insert_reply (insert_answer m (length w) e)) 1 removed

pub record RemoveExported (m : List ℕ) (c : Cell) (held : ℕ) (n : ℕ) (m' : List ℕ) (held' : ℕ) : Type 0 where
  pub number : n ≡ (remove_reply (remove_answer m c)).number
  pub memory : RemoveMemory (remove_answer m c) m c m'
  pub memory_length : length m' ≡ length m
  pub held_is : held' ≡ stored (remove_reply (remove_answer m c)) 0 held

pub record ClearExported (m : List ℕ) (held : ℕ) (n : ℕ) (m' : List ℕ) (held' : ℕ) : Type 0 where
  pub number : n ≡ (clear_reply (clear_answer m)).number
  pub memory : m' ≡ cleared m
  pub held_is : held' ≡ stored (clear_reply (clear_answer m)) 0 held

pub record PointExported (m : List ℕ) (c : Cell) (held visits tag : ℕ) (n held' visits' tag' : ℕ) : Type 0 where
  pub number : n ≡ (point_reply (point_answer m c)).number
  pub held_is : held' ≡ stored (point_reply (point_answer m c)) 0 held
  pub visits_is : visits' ≡ stored (point_reply (point_answer m c)) 1 visits
  pub tag_is : tag' ≡ stored (point_reply (point_answer m c)) 2 tag

pub record WindowExported (m : List ℕ) (w : Rect) (list : List ℕ) (matches visits : ℕ) (n : ℕ) (list' : List ℕ)
    (matches' visits' : ℕ) : Type 0 where
  pub number : n ≡ (window_reply (window_answer m w (length list))).number
  pub list_is : list' ≡ window_list m w list
  pub matches_is : matches' ≡ stored (window_reply (window_answer m w (length list))) 0 matches
  pub visits_is : visits' ≡ stored (window_reply (window_answer m w (length list))) 1 visits

pub record NearestExported (m : List ℕ) (c : Cell)
    (x y tag distance visits n x' y' tag' distance' visits' : ℕ) : Type 0 where
  pub number : n ≡ (nearest_reply (nearest_answer m c)).number
  pub near_x_is : x' ≡ stored (nearest_reply (nearest_answer m c)) 0 x
  pub near_y_is : y' ≡ stored (nearest_reply (nearest_answer m c)) 1 y
  pub tag_is : tag' ≡ stored (nearest_reply (nearest_answer m c)) 2 tag
  pub distance_is : distance' ≡ stored (nearest_reply (nearest_answer m c)) 3 distance
  pub visits_is : visits' ≡ stored (nearest_reply (nearest_answer m c)) 4 visits

pub record EmptyExported (m : List ℕ) (w : Rect) (empty visits n empty' visits' : ℕ) : Type 0 where
  pub number : n ≡ (empty_reply (empty_answer m w)).number
  pub empty_is : empty' ≡ stored (empty_reply (empty_answer m w)) 0 empty
  pub visits_is : visits' ≡ stored (empty_reply (empty_answer m w)) 1 visits
