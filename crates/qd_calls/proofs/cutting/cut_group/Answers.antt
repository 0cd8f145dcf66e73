use Rattle.qd_calls.proofs.cutting.cut_group.Goals as goal

pub returns-in-TickerAdd-clause-calls : goal.returns-in-TickerAdd-clause-calls
returns-in-TickerAdd-clause-calls c = rw (c.in-Some.is, c.in-TickerAdd.is, ← c.group.view_is) (rw c.deref-in-TickerAdd.ensures.value at c.cut-in-TickerAdd.ensures.calls)

pub returns-in-StreamAdd-clause-calls : goal.returns-in-StreamAdd-clause-calls
returns-in-StreamAdd-clause-calls c = rw (c.in-Some.is, c.in-StreamAdd.is, ← c.group.view_is) (rw c.deref-in-StreamAdd.ensures.value at c.cut-in-StreamAdd.ensures.calls)

pub returns-in-HistoryAdd-clause-calls : goal.returns-in-HistoryAdd-clause-calls
returns-in-HistoryAdd-clause-calls c = rw (c.in-Some.is, c.in-HistoryAdd.is, ← c.group.view_is) (rw c.deref-in-HistoryAdd.ensures.value at c.cut-in-HistoryAdd.ensures.calls)

pub returns-in-TickerRemove-clause-calls : goal.returns-in-TickerRemove-clause-calls
returns-in-TickerRemove-clause-calls c = rw (c.in-Some.is, c.in-TickerRemove.is, ← c.group.view_is) (rw c.deref-in-TickerRemove.ensures.value at c.cut-in-TickerRemove.ensures.calls)

pub returns-in-StreamRemove-clause-calls : goal.returns-in-StreamRemove-clause-calls
returns-in-StreamRemove-clause-calls c = rw (c.in-Some.is, c.in-StreamRemove.is, ← c.group.view_is) (rw c.deref-in-StreamRemove.ensures.value at c.cut-in-StreamRemove.ensures.calls)

pub returns-in-HistoryRemove-clause-calls : goal.returns-in-HistoryRemove-clause-calls
returns-in-HistoryRemove-clause-calls c = rw (c.in-Some.is, c.in-HistoryRemove.is, ← c.group.view_is) (rw c.deref-in-HistoryRemove.ensures.value at c.cut-in-HistoryRemove.ensures.calls)
