-- What the decoded types of this crate stand for: a head word, and an item's parts by their places.
-- Paper: "Words on the shelf". Assumes nothing.
use Rattle.std.specs.Prelude.{ℕ, List, get_or}
use Rattle.model.specs.Words.{kind_of, code_of, count_of}
use Rattle.model.specs.Item as model
use Rattle.model.specs.Item.{content_at, parent_at, previous_at, time_at, signature_at, address_at, behind}
use Rattle.format.specs.Format.{format_of}
use Rattle.format.specs.declared.head.Head.{Head}
use Rattle.format.specs.declared.item.Item.{Item}

-- a head word, taken apart
abbrev pub head_of : ℕ → Head
head_of w = record { kind = kind_of w; code = code_of w; count = count_of w }

-- the item whose head stands at place p: its head, and the places of its parts
unfoldable pub item_of : List ℕ → ℕ → Item
item_of ws p =
    let n = count_of (get_or ws p 0) in
    record {
      place = p;
      head = head_of (get_or ws p 0);
      content = content_at p;
      parent = parent_at p n;
      previous = previous_at (format_of ws) p n;
      time = time_at (format_of ws) p n;
      signature = signature_at (format_of ws) p n;
      address = address_at (format_of ws) p n;
      end = behind (format_of ws) ws p;
    }

-- the item itself, in the board's format
abbrev pub item_on : List ℕ → ℕ → model.Item
item_on ws p = model.item_at (format_of ws) ws p
