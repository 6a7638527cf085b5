-- A name for all of the definitions of a reading and of a content together: a proof by computation says `unfolding readings`.
-- Assumes nothing.
use Rattle.text.specs.Switches
use Rattle.text.specs.Bytes
use Rattle.text.specs.Utf8
use Rattle.literals.specs.Content as Decoding
use Rattle.literals.specs.Number
use Rattle.literals.specs.Word
use Rattle.lexer.specs.Closing
use Rattle.lexer.specs.Token
use Rattle.reader.specs.Tree
use Rattle.reader.specs.Syntax
use Rattle.reader.specs.Reading
use Rattle.reader.specs.Content

unfoldable pub readings : Unit {0}
unfolding Switches.present_edition Bytes.feed Bytes.one_of Bytes.front Bytes.starts_with Bytes.same_bytes Bytes.class_of Bytes.class_number
    Bytes.is_letter_or_digit Bytes.is_word_byte Bytes.is_number_byte Bytes.digit_value Utf8.lead Utf8.later Utf8.utf8_step Utf8.utf8 Utf8.is_whole
    Utf8.whole_front Utf8.is_utf8 Utf8.is_scalar Utf8.encode Utf8.listed Decoding.one_letter Decoding.hex_done Decoding.hex_digit
    Decoding.hex_step Decoding.quoted_refuses Decoding.plain_step Decoding.many_digits Decoding.escaped Decoding.escape_step Decoding.raw_refuses
    Decoding.raw_step Decoding.sextet Decoding.base64_digit Decoding.whole_bytes Decoding.pad Decoding.digits_step Decoding.pads_step Decoding.decode_step
    Decoding.may_end Decoding.prepend Decoding.decoded Decoding.start_of Decoding.content Decoding.only_utf8 Decoding.content_of Decoding.measured
    Decoding.fitted Decoding.placed Decoding.same_content Number.base_of Number.number_step Number.as_integer Number.as_decimal Number.meaning
    Number.number Word.shape_step Word.is_good Word.has_shape Closing.after_quote Closing.after_other Closing.closing_step Closing.closing
    Closing.block_step Closing.block Closing.not_newline Token.block_item Token.comment Token.has_escapes Token.content_item Token.closed_item
    Token.string_item Token.hash_count Token.raw_item Token.opens_raw Token.word_item Token.meant_item Token.number_item Token.small_item Token.item_of
    Token.item Token.after_item Token.cut Token.tokens Token.item_at Token.tokens_from Token.key_content Token.whole_item Token.token_content Tree.head_of
    Tree.snoc Tree.count Tree.size Tree.sizes Tree.twos_complement Tree.plus1000 Tree.kind_number Tree.scalar_number Tree.scalar_words Tree.span_words
    Tree.head_words Tree.rows Tree.rows_all Tree.padded Syntax.span_of Syntax.is_mark Syntax.key_of Syntax.mark_begins Syntax.opens_with_capital
    Syntax.word_begins Syntax.begins Syntax.head_by Syntax.stop_at Syntax.with_stop Syntax.finished Syntax.ended Syntax.refuse_if Syntax.holds
    Syntax.key_step Syntax.close_or Syntax.empty_by_comma Syntax.no_node Syntax.counted Syntax.value_step Syntax.fresh_value Syntax.child_step
    Syntax.slot_step Syntax.mode_step Syntax.step Syntax.at_end Syntax.after_step Syntax.run Syntax.before Reading.node_limit Reading.limits_of Reading.limits_alone
    Reading.outcome Reading.reading Reading.reading_to Reading.is_taken Reading.reads Reading.node_count Reading.table_of Reading.answer_of Reading.spans Reading.one_value Content.is_span
    Content.content_alone Content.span_content Content.fitting Content.content_call Content.written Content.content_given
readings = tt
