-- Which of several items came last.
use Rattle.qd_grammar.specs.declared.item.Item.{Item}
use Rattle.qd_items.specs.declared.places.Kind.{Kind}
use Rattle.qd_items.specs.declared.places.Kind.TheVariants.{Ticker, Stream, History, Other}

-- the one in the place of its kind
abbrev pub item_in : Kind → Item → Item → Item → Item → Item
item_in Ticker ticker stream history other = ticker
item_in Stream ticker stream history other = stream
item_in History ticker stream history other = history
item_in Other ticker stream history other = other
