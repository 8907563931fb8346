-- A picture in SVG (Scalable Vector Graphics 1.1): a tag with its size, a title, a style, a `rect` with a `title` for each bar, and a
-- `text` for each label.
use Rattle.std.specs.Prelude.{◌++◌, ℕ, List, [], ◌∷◌, codes, decimal}
use Rattle.std.specs.List.{flat_map}
use Rattle.board_timeline.specs.Escaped.{escaped}
use Rattle.board_timeline.specs.Looks.{font_class, look_class}
use Rattle.board_timeline.specs.declared.shape.Frame.{Frame}
use Rattle.board_timeline.specs.declared.shape.ShapeKind.{ShapeKind}
use Rattle.board_timeline.specs.declared.shape.ShapeKind.TheVariants.{Bar, Label}
use Rattle.board_timeline.specs.declared.shape.Shape.{Shape}

-- ---- bars and labels

-- Where one stands, after a class.
abbrev pub place_text : ℕ → ℕ → List ℕ
place_text left top = (codes "\" x=\"" ++ decimal left) ++ (codes "\" y=\"" ++ decimal top)

-- How large a bar or a picture is.
abbrev pub size_text : ℕ → ℕ → List ℕ
size_text width height = (codes "\" width=\"" ++ decimal width) ++ (codes "\" height=\"" ++ decimal height)

-- What stands before the text of a bar.
abbrev pub bar_begin : List ℕ → Frame → List ℕ
bar_begin class frame =
    (codes "<rect class=\"" ++ class) ++ place_text frame.left frame.top ++ size_text frame.width frame.height ++ codes "\"><title>"

-- What stands before the text of a label.
abbrev pub label_begin : List ℕ → Frame → List ℕ
label_begin class frame = (codes "<text class=\"" ++ class) ++ place_text frame.left frame.top ++ codes "\">"

-- What stands before the text of either.
abbrev pub begin : ShapeKind → Frame → List ℕ
begin (Bar look) frame = bar_begin (look_class look) frame
begin (Label font) frame = label_begin (font_class font) frame

-- What stands after it.
abbrev pub end : ShapeKind → List ℕ
end (Bar look) = codes "</title></rect>\n"
end (Label font) = codes "</text>\n"

-- A bar or a label.
abbrev pub shape_text : Shape → List ℕ
shape_text shape = begin shape.kind shape.frame ++ escaped shape.text ++ end shape.kind

-- ---- the picture

-- The first tag.
abbrev pub tag_text : ℕ → ℕ → List ℕ
tag_text width height = codes "<svg xmlns=\"http://www.w3.org/2000/svg" ++ size_text width height ++ codes "\">\n"

-- The title of the picture, for which browsers would else look through all bars at the title of each; and the colours, by
-- light and in the dark.
abbrev pub style_text : List ℕ
style_text = flat_map (λ (piece : List ℕ). piece)
    (codes "<title>timeline</title>\n"
    ∷ codes "<style>\n"
    ∷ codes "svg { background: #ffffff; font: 11px ui-monospace, Menlo, Consolas, monospace; }\n"
    ∷ codes "text { fill: #24292f; white-space: pre; }\n"
    ∷ codes ".run { font-size: 13px; font-weight: bold; } .job { font-weight: bold; }\n"
    ∷ codes ".leg, .note { fill: #57606a; } .lane { fill: #f0f2f5; } .line { fill: #c8d1da; }\n"
    ∷ codes ".waiting { fill: #eac54f; } .admitted { fill: #b6e3ff; } .going { fill: #bcc4cd; }\n"
    ∷ codes ".calling { fill: #218bff; } .success { fill: #2da44e; } .failure { fill: #cf222e; }\n"
    ∷ codes ".passed { fill: #fb8f44; } .cancelled { fill: #8250df; } .skipped { fill: #6e7781; }\n"
    ∷ codes ".told { fill: #bf3989; } .displaced { fill: #24292f; }\n"
    ∷ codes "@media (prefers-color-scheme: dark) {\n"
    ∷ codes "svg { background: #0d1117; } text { fill: #e6edf3; } .leg, .note { fill: #9198a1; }\n"
    ∷ codes ".lane { fill: #1a2029; } .line { fill: #3d444d; } .going { fill: #4a535e; }\n"
    ∷ codes ".waiting { fill: #d4a72c; } .admitted { fill: #264f78; } .skipped { fill: #b1bac4; }\n"
    ∷ codes ".displaced { fill: #ffffff; }\n"
    ∷ codes "}\n"
    ∷ codes "</style>\n"
    ∷ [])

-- The picture of these shapes.
abbrev pub picture : ℕ → ℕ → List Shape → List ℕ
picture width height shapes =
    tag_text width height ++ style_text ++ flat_map shape_text shapes ++ codes "</svg>\n"
