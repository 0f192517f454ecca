-- How many bytes the line of a kind has at most, whatever its values.
use Rattle.std.proofs.Common.{◌≡◌, ℕ, zero, suc, ◌+◌, ◌<◌, ◌≤◌, max, List, [], ◌∷◌, length, refl, le_of_suc-le-suc, arith, length-append}
use Rattle.descriptions.proofs.TextRoom.{text_room, within_room}
use Rattle.descriptions.specs.Laws.{value_room, longest}
use Rattle.descriptions.specs.Layouts.{rows_text}
use Rattle.descriptions.specs.declared.layout.Layout.TheVariants.{Fields}
use Rattle.descriptions.specs.declared.value.Value.{Value}
use Rattle.call_text.specs.Calls.{call_kinds}
use Rattle.call_text.specs.Kinds.{PlainCallKind, kind_at, head_text, kind_text, IsOfKind}

abbrev kind_room : PlainCallKind → ℕ
kind_room k = length (head_text k) + text_room k.fields

-- the most of any kind
unfoldable pub line_room : List PlainCallKind → ℕ
line_room [] = 0
line_room (k ∷ kinds) = max (kind_room k) (line_room kinds)

within_kind : (kinds : List PlainCallKind) (i : ℕ) (vs : List Value) → IsOfKind kinds i vs → length (kind_text kinds i vs) ≤ kind_room (kind_at kinds i)
unfolding kind_text
within_kind kinds i vs of =
    omega (arith, length-append (head_text (kind_at kinds i)) (rows_text Fields (kind_at kinds i).fields vs), within_room Fields (kind_at kinds i).fields vs of.1)

kind_within : (kinds : List PlainCallKind) (i : ℕ) → i < length kinds → kind_room (kind_at kinds i) ≤ line_room kinds
unfolding line_room
kind_within [] i h = absurd (omega arith)
kind_within (k ∷ kinds) zero h = omega arith
kind_within (k ∷ kinds) (suc i) h = omega (arith, kind_within kinds i (le_of_suc-le-suc h))

pub within_line_room : (kinds : List PlainCallKind) (i : ℕ) (vs : List Value) → IsOfKind kinds i vs → length (kind_text kinds i vs) ≤ line_room kinds
within_line_room kinds i vs of = omega (arith, within_kind kinds i vs of, kind_within kinds i of.0)

-- that of an announcement
pub calls_room : line_room call_kinds ≡ 85
unfolding line_room text_room value_room longest
calls_room = refl
