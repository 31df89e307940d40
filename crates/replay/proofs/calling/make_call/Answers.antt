-- `calling::make_call` meets its contract; the laws that it needs are in CallReturns.
use Rattle.replay.proofs.CallReturns.{replied_insert, replied_remove, replied_clear, replied_point, replied_window, replied_nearest, replied_empty}
use Rattle.replay.proofs.calling.make_call.Goals as goal

pub returns-in-Insert : goal.returns-in-Insert
returns-in-Insert c = search replied_insert

pub returns-in-Remove : goal.returns-in-Remove
returns-in-Remove c = search replied_remove

pub returns-in-Clear : goal.returns-in-Clear
returns-in-Clear c = search replied_clear

pub returns-in-Point : goal.returns-in-Point
returns-in-Point c = search replied_point

pub returns-in-Window : goal.returns-in-Window
returns-in-Window c = search replied_window

pub returns-in-Nearest : goal.returns-in-Nearest
returns-in-Nearest c = search replied_nearest

pub returns-in-IsEmpty : goal.returns-in-IsEmpty
returns-in-IsEmpty c = search replied_empty
