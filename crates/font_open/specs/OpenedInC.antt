-- What the struct of the C boundary says of an opened font: a refusal is its number and its offset and everything else zeros.
use Rattle.font_open.specs.Opened.{FontReply, opened, refused}
use Rattle.font_open.specs.declared.JustFont.{JustFont}

abbrev pub font_in : FontReply → JustFont
font_in (opened offset length count) = record { refusal = 0; offset = 0; table_offset = offset; table_length = length; glyph_count = count }
font_in (refused number at) = record { refusal = number; offset = at; table_offset = 0; table_length = 0; glyph_count = 0 }
