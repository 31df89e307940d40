-- `response::respond` meets its contract; its returns are in ResponseReturns.
use Rattle.line_program.proofs.ResponseReturns.{window_listed, respond_insert, respond_remove, respond_point, respond_window, respond_clear, respond_other}
use Rattle.line_program.proofs.response.respond.Goals as goal

pub returns-in-Some-Insert : goal.returns-in-Some-Insert
returns-in-Some-Insert c = let e = c.in-Some-Insert.ensures in search respond_insert

pub returns-in-Some-Remove : goal.returns-in-Some-Remove
returns-in-Some-Remove c = let e = c.in-Some-Remove.ensures in search respond_remove

pub returns-in-Some-Point : goal.returns-in-Some-Point
returns-in-Some-Point c = let e = c.in-Some-Point.ensures in search respond_point

pub put_window-requires-clause-r_in_bounds : goal.put_window-requires-clause-r_in_bounds
put_window-requires-clause-r_in_bounds c = search window_listed

pub returns-in-Some-Window : goal.returns-in-Some-Window
returns-in-Some-Window c = let e = c.in-Some-Window.ensures in search respond_window

pub returns-in-Some-Clear : goal.returns-in-Some-Clear
returns-in-Some-Clear c = let e = c.in-Some-Clear.ensures in search respond_clear

pub returns-in-None : goal.returns-in-None
returns-in-None c = let e = c.in-None.ensures in search respond_other
